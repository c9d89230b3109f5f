-- From the factory on: the chain of a device is accepted under its maker's key, with each statement that was ever answered.
use Rattle.std.proofs.Common.{◌≡◌, ◌<◌, ℕ, List, [], ◌∷◌, ◌++◌, inl, inr, Some, refl, sym, ap, ◌∙◌, subst, arith}
use Rattle.std.specs.Prelude.{All}
use Rattle.std.proofs.lemmas.List.Elements.{All-nil, All-cons, All-head, All-tail, All-weaker}
use Rattle.std.proofs.lemmas.Option.{same_Some}
use Rattle.mb_model.specs.declared.entry.SignedEntry.{SignedEntry}
use Rattle.mb_model.specs.declared.event.Answered.{Answered}
use Rattle.mb_model.specs.declared.key.KeySeed.{KeySeed}
use Rattle.mb_model.specs.declared.key.PublicKey.{PublicKey}
use Rattle.mb_model.specs.declared.reply.Reply.TheVariants as reply
use Rattle.mb_model.specs.declared.state.State.{State}
use Rattle.mb_model.specs.chains.Acceptance.{IsBornOf}
use Rattle.mb_model.specs.memories.Factory.{birth_entry, state_at_birth, IsFactoryImage}
use Rattle.mb_model.specs.memories.Flash.{HoldsPublic}
use Rattle.mb_model.specs.owners.Log.{figures_of}
use Rattle.mb_model.specs.machine.Machine.{World, opening_world, Run}
use Rattle.mb_model.specs.signatures.Merkle.{Verifies}
use Rattle.mb_model.specs.machine.OrderEffects.{entry_signed_by}
use Rattle.mb_model.specs.machine.Runs.{worlds_of, IsAcceptedIn, StatementsStayAccepted, StaysAccepted}
use Rattle.mb_model.specs.chains.Script.{IsScriptEvent}
use Rattle.mb_model.specs.signatures.Signing.{public_of}
use Rattle.mb_model.specs.machine.SignedTexts.{entry_text}
use Rattle.mb_model.specs.memories.Valid.{Follows, IsValidState}
use Rattle.mb_model_lemmas.proofs.FactoryLemmas.{birth_is_valid, factory_is_well_formed, only_entry}
use Rattle.mb_model_lemmas.proofs.HeldSegments.{segments_parts_fit}
use Rattle.mb_model_lemmas.proofs.LineLemmas.{cons_same}
use Rattle.mb_model_lemmas.proofs.SignatureLemmas.{signature_verifies}
use Rattle.mb_model_memory.proofs.StorableMemories.{stands_storable_by}
use Rattle.mb_model_memory.specs.Storable.{Storable}
use Rattle.mb_model_runs.proofs.StatementLemmas.{statements_stay_accepted}
use Rattle.mb_model_histories.specs.Histories.{History, all_answered, IsPause}
use Rattle.mb_model_histories.specs.HistoryLaws.{BirthsMayBeUnsigned}
use Rattle.mb_model_histories.proofs.HistoryLemmas.{logs_grow_over_histories, histories_are_runs, of_joined, to_joined}

module _ (maker : KeySeed) (index : ℕ) (owner : PublicKey) (code noise : List ℕ) where
  -- the birth as it stands in the log
  birth : SignedEntry
  birth = entry_signed_by maker index (birth_entry owner code noise)

  birth_verifies : index < 32 → Verifies (public_of maker) (entry_text birth.entry) birth.signature
  unfolding birth entry_signed_by
  birth_verifies left = signature_verifies maker index (entry_text (birth_entry owner code noise)) left

  birth_log : (state_at_birth maker index owner code noise).log ≡ birth ∷ []
  unfolding birth state_at_birth
  birth_log = refl

  pub born_of_their_maker : (runs : List (List Answered)) (live : State) → index < 32 → History (Some (state_at_birth maker index owner code noise)) runs (Some live) → IsBornOf (public_of maker) live.log
  born_of_their_maker runs live left history first rest split =
      let grown = logs_grow_over_histories (Some (state_at_birth maker index owner code noise)) runs live history in
      let same : state_at_birth maker index owner code noise ≡ grown.0 = same_Some (state_at_birth maker index owner code noise) grown.0 grown.1 in
      let log : grown.0.log ≡ birth ∷ [] = ap (λ (s : State). s.log) (sym same) ∙ birth_log in
      let whole : birth ∷ grown.2.0 ≡ first ∷ rest = ap (λ (l : List SignedEntry). l ++ grown.2.0) (sym log) ∙ sym grown.2.1 ∙ split in
      let one : birth ≡ first = (cons_same birth first grown.2.0 rest whole).0 in
      subst (λ (signed : SignedEntry). Verifies (public_of maker) (entry_text signed.entry) signed.signature) one (birth_verifies left)

  -- the state at birth can be stored, where there is an image of it
  pub birth_storable : (image : List ℕ) → IsFactoryImage maker index owner code noise image → Storable (Some (state_at_birth maker index owner code noise))
  birth_storable image made =
      let state : State = state_at_birth maker index owner code noise in
      let formed = factory_is_well_formed maker index owner code noise image made in
      stands_storable_by HoldsPublic segments_parts_fit formed.flash formed.bbram state formed.stands formed.valid

-- the last world of a run is among its worlds
pub at_last : (P : World → Type 0) (first last : World) (answered : List Answered) (run : Run first answered last) → All P (worlds_of first answered last run) → P last
at_last P first last [] run all = subst P (sym run) (All-head P first [] all)
at_last P first last (this ∷ rest) run all = at_last P run.0 last rest run.2 (All-tail P first (worlds_of run.0 rest last run.2) all)

-- the bytes of a statement that answered the event are accepted in this world
abbrev pub IsAcceptedAt : World → Answered → Type 0
IsAcceptedAt last this = (key_number index : ℕ) (bytes : List ℕ) → this.reply ≡ reply.Signed key_number index bytes → IsAcceptedIn key_number bytes last

accepted_at_last : (first last : World) (answered : List Answered) (run : Run first answered last) → StatementsStayAccepted first answered last run → All (IsAcceptedAt last) answered
accepted_at_last first last [] run stay = All-nil (IsAcceptedAt last)
accepted_at_last first last (this ∷ rest) run stay =
    All-cons (IsAcceptedAt last) this rest
    (λ key_number index bytes told. at_last (IsAcceptedIn key_number bytes) run.0 last rest run.2 (stay.0 key_number index bytes told))
    (accepted_at_last run.0 last rest run.2 stay.1)

abbrev IsOfScript : Answered → Type 0
IsOfScript this = IsScriptEvent this.event

pause_of_script : (this : Answered) → IsPause this → IsOfScript this
pause_of_script this (inl is) = subst IsOfScript (sym is) tt
pause_of_script this (inr is) = subst IsOfScript (sym is) tt

pub all_stay_accepted : (maker : KeySeed) (index : ℕ) (owner : PublicKey) (code noise image : List ℕ) (runs : List (List Answered)) (live : State)
    → IsFactoryImage maker index owner code noise image → index < 32 → History (Some (state_at_birth maker index owner code noise)) runs (Some live)
    → All (λ this. IsScriptEvent this.event) (all_answered runs)
    → All (λ this. (key_number index : ℕ) (bytes : List ℕ) → this.reply ≡ reply.Signed key_number index bytes → StaysAccepted (public_of maker) live.log key_number bytes) (all_answered runs)
all_stay_accepted maker index owner code noise image runs live made left history scripts =
    let born : State = state_at_birth maker index owner code noise in
    let one = histories_are_runs (Some born) runs live history in
    let stay : StatementsStayAccepted (opening_world (Some born)) one.0 one.1 one.3 =
    statements_stay_accepted (opening_world (Some born)) one.0 one.1 one.3 (to_joined IsOfScript runs one.0 pause_of_script one.2 scripts)
    (birth_is_valid maker index owner code noise) (birth_storable maker index owner code noise image made) in
    let each : All (IsAcceptedAt one.1) (all_answered runs) = of_joined (IsAcceptedAt one.1) runs one.0 one.2 (accepted_at_last (opening_world (Some born)) one.1 one.0 one.3 stay) in
    let is_born : IsBornOf (public_of maker) live.log = born_of_their_maker maker index owner code noise runs live left history in
    All-weaker (IsAcceptedAt one.1) (λ (this : Answered). (key_number its : ℕ) (bytes : List ℕ) → this.reply ≡ reply.Signed key_number its bytes → StaysAccepted (public_of maker) live.log key_number bytes)
    (λ this accepted key_number its bytes told. accepted key_number its bytes told (public_of maker) live one.4 is_born)
    (all_answered runs) each

-- ---- births without a signature

-- a key, an owner and noise of no bytes
no_seed : KeySeed
no_seed = record { identifier = []; seed = [] }

unsigned_birth : SignedEntry
unsigned_birth = record { entry = birth_entry (public_of no_seed) [] []; signature = [] }

unsigned_state : State
unsigned_state = record (state_at_birth no_seed 0 (public_of no_seed) [] []) { log = unsigned_birth ∷ [] }

unsigned_follows : Follows (figures_of []) unsigned_birth
unfolding unsigned_birth state_at_birth entry_signed_by
unsigned_follows = record {
  ruled = ((birth_is_valid no_seed 0 (public_of no_seed) [] []).log [] _ [] refl).ruled;
  in_order = λ some. absurd (some refl);
  verifies = λ some. absurd (some refl);
}

unsigned_is_valid : IsValidState unsigned_state
unfolding unsigned_birth unsigned_state state_at_birth entry_signed_by
unsigned_is_valid =
    let born : IsValidState (state_at_birth no_seed 0 (public_of no_seed) [] []) = birth_is_valid no_seed 0 (public_of no_seed) [] [] in
    record {
      log = λ before signed rest split. only_entry unsigned_birth signed before rest split unsigned_follows;
      layers = born.layers;
      codes = born.codes;
      serial = born.serial;
      device = born.device;
      uses = born.uses;
      two = born.two;
      three = born.three;
    }

pub births_may_be_unsigned : BirthsMayBeUnsigned
unfolding unsigned_birth unsigned_state
births_may_be_unsigned = (unsigned_state, unsigned_is_valid, λ maker born. omega (arith, (born unsigned_birth [] refl).form.sized))
