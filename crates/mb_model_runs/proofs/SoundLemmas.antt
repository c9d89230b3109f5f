-- A run from a state that a device can have is sound throughout.
use Rattle.std.proofs.Common.{ℕ, List, [], ◌∷◌, ◌++◌, sym, ap, subst, ◌∙◌}
use Rattle.std.specs.Prelude.{IsTrue}
use Rattle.std.proofs.lemmas.List.Elements.{All-weaker}
use Rattle.mb_model.specs.declared.layer.Layers.{Layers}
use Rattle.mb_model.specs.declared.entry.Entry.{Entry}
use Rattle.mb_model.specs.declared.event.Answered.{Answered}
use Rattle.mb_model.specs.declared.state.State.{State}
use Rattle.mb_model.specs.owners.Layers.{is_upper}
use Rattle.mb_model.specs.owners.Log.{entries_of}
use Rattle.mb_model.specs.owners.Lives.{configuration}
use Rattle.mb_model.specs.signatures.Signing.{public_of}
use Rattle.mb_model.specs.owners.Regions.{region_of}
use Rattle.mb_model.specs.machine.Machine.{World, Run}
use Rattle.mb_model.specs.memories.Valid.{IsValidRegion, Valid, IsValidState}
use Rattle.mb_model.specs.machine.Runs.{worlds_of, HoldsLivingKeys, IsSoundWorld, IsSoundRun}
use Rattle.mb_model_lemmas.proofs.PresentLemmas.{alive_lives_now}
use Rattle.mb_model_lemmas.proofs.FatedStates.{region_key_lives, living_key_stands}
use Rattle.mb_model_lemmas.proofs.ValidStates.{valid_is_ruled, region_is_valid}
use Rattle.mb_model_lemmas.proofs.ValidSteps.{run_valid}
use Rattle.mb_model_runs.proofs.IndexLemmas.{signs_entries_once}
use Rattle.mb_model_runs.proofs.GrowthLemmas.{each_log_grows}
use Rattle.mb_model_runs.proofs.SpentLemmas.{indices_increase, indices_start}
use Rattle.mb_model_runs.proofs.KeptByRuns.{runs_lead_there}

-- the region of an upper layer holds the keys that are alive
holds_living_keys : (live : State) (L : ℕ) → IsValidState live → IsTrue (is_upper L) → HoldsLivingKeys live L
holds_living_keys live L valid upper =
    let log : List Entry = entries_of live.log in
    let region : IsValidRegion log live.layers L (region_of live L) = region_is_valid live L upper valid in
    record {
      alive = λ key within. region_key_lives log live.layers L (region_of live L) key region within;
      held = λ n kind key alive.
          let own = living_key_stands log live.layers L (region_of live L) n kind key region alive in
          (own.1.0, own.0, own.1.1, own.1.2, own.2);
      now = λ key within.
          let alive = region_key_lives log live.layers L (region_of live L) key region within in
          let lives = alive_lives_now log key.number L key.kind (public_of key.seed) (valid_is_ruled live valid) upper alive in (
            lives.0,
            lives.1,
            lives.2 ∙ ap (λ (layers : Layers). lives.0 ++ configuration L lives.1 layers ∷ []) (sym valid.layers),
          );
    }

valid_is_sound : (world : World) → Valid world.state → IsSoundWorld world
valid_is_sound world valid = record {
  valid = valid;
  keys = λ live L is upper. holds_living_keys live L (subst Valid is valid) upper;
  once = λ live is. signs_entries_once live (subst Valid is valid);
}

pub run_is_sound : (world : World) (answered : List Answered) (next : World) (run : Run world answered next)
    → Valid world.state → IsSoundRun world answered next run
run_is_sound world answered next run valid =
    let P : World → Type 0 = λ w. (part : List Answered) × Run world part w in
    record {
      sound = All-weaker P IsSoundWorld (λ w part. valid_is_sound w (run_valid world part.0 w valid part.1)) (worlds_of world answered next run)
          (runs_lead_there world answered next run);
      logs = each_log_grows world answered next run;
      statements = indices_increase world answered next valid run;
      uses = λ live L key is within. indices_start world answered next live L key valid run is within;
    }
