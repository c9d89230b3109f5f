-- Demands that are met one after another, and what the output of a run asks for.
use Rattle.std.proofs.Common.{◌≡◌, ◌<◌, ◌≤◌, ◌^◌, ℕ, List, [], ◌∷◌, length, Bool, true, false, Option, None, Some, refl, sym, ap, subst, ◌∙◌, arith}
use Rattle.std.specs.Prelude.{All, MatchOption}
use Rattle.std.proofs.lemmas.List.Elements.{All-nil, All-head, All-tail, All-from_recursion, All-weaker}
use Rattle.mb_format.specs.Format.{Spells}
use Rattle.mb_format.proofs.Compositions.{items_all}
use Rattle.mb_model.specs.declared.region.Region.{Region}
use Rattle.mb_model.specs.declared.region.Secret.{Secret}
use Rattle.mb_model.specs.machine.Actions.{Demand, to_keep, to_drop, Action, demand_format, name_format, value_format, action_format}
use Rattle.mb_model.specs.records.RegionFormat.{secret_format}
use Rattle.mb_model.specs.records.RootFormat.{region_key_format}
use Rattle.mb_device_regions.specs.declared.acting.Acted.{Acted}
use Rattle.mb_device_regions.specs.Demands.{AreKept, FitsSpare, KeepsIn, without_name, secrets_after, if_met, secrets_after_all, MeetsDemand}
use Rattle.mb_device_regions.specs.Runs.{EndsWithOutput, IsActionDone, IsActed, IsNotActed, is_unmet, asks_badly, ActsOn, CanBeAnswered}
use Rattle.mb_device_regions.specs.Secrets.{IsKeptRegion}
use Rattle.mb_device_regions.proofs.Demanded.{met_keep, unmet_keep, kept_put, kept_drop}

-- a secret that is demanded has a spelling
keep_allowed : (name value : List ℕ) (born : ℕ) → demand_format.Allowed (to_keep name value) → born < 2 ^ 32 → secret_format.Allowed (record { name = name; value = value; born = born })
unfolding demand_format name_format value_format secret_format
keep_allowed name value born allowed small = (allowed.1.0, (allowed.1.1, small))

pub meets_keep : (name value : List ℕ) (born : ℕ) (before : List Secret) (kept : Bool) (after : List Secret) → born < 2 ^ 32 → demand_format.Allowed (to_keep name value) → AreKept before
    → KeepsIn (record { name = name; value = value; born = born }) before kept after → MeetsDemand born (to_keep name value) before kept after
meets_keep name value born before true after small allowed are is =
    (met_keep name value born before after is, kept_put (record { name = name; value = value; born = born }) before after (keep_allowed name value born allowed small) are is)
meets_keep name value born before false after small allowed are is = unmet_keep name value born before after is

pub meets_drop : (name : List ℕ) (born : ℕ) (before after : List Secret) → AreKept before → after ≡ without_name name before → MeetsDemand born (to_drop name) before true after
meets_drop name born before after are is = (ap Some (sym is), subst AreKept (sym is) (kept_drop name before are))

-- ---- the first of some demands

pub first_allowed : (demands later : List Demand) (demand : Demand) → demands ≡ demand ∷ later → All demand_format.Allowed demands → demand_format.Allowed demand
first_allowed demands later demand is are = All-head demand_format.Allowed demand later (subst (All demand_format.Allowed) is are)

pub later_allowed : (demands later : List Demand) (demand : Demand) → demands ≡ demand ∷ later → All demand_format.Allowed demands → All demand_format.Allowed later
later_allowed demands later demand is are = All-tail demand_format.Allowed demand later (subst (All demand_format.Allowed) is are)

pub fewer : (demands later : List Demand) (demand : Demand) → demands ≡ demand ∷ later → length later < length demands
fewer demands later demand is = omega (arith, ap length is)

all_then : (born : ℕ) (demand : Demand) (later : List Demand) (before : List Secret) → secrets_after_all born (demand ∷ later) before ≡ if_met (secrets_after born demand before) (λ next. secrets_after_all born later next)
unfolding secrets_after_all
all_then born demand later before = refl

-- it is met, and what is left is done on what it leaves
pub goes_on : (born : ℕ) (demands later : List Demand) (demand : Demand) (before after : List Secret) (all : Option (List Secret)) → demands ≡ demand ∷ later → secrets_after_all born demands before ≡ all
    → secrets_after born demand before ≡ Some after → secrets_after_all born later after ≡ all
goes_on born demands later demand before after all is so_far met =
    sym (ap (λ (o : Option (List Secret)). if_met o (λ next. secrets_after_all born later next)) met) ∙ sym (all_then born demand later before)
    ∙ sym (ap (λ (ds : List Demand). secrets_after_all born ds before) is) ∙ so_far

-- it cannot be met, and so not all can
pub stops : (born : ℕ) (demands later : List Demand) (demand : Demand) (before : List Secret) (all : Option (List Secret)) → demands ≡ demand ∷ later → secrets_after_all born demands before ≡ all
    → secrets_after born demand before ≡ None → all ≡ None
stops born demands later demand before all is so_far unmet =
    sym so_far ∙ ap (λ (ds : List Demand). secrets_after_all born ds before) is ∙ all_then born demand later before
    ∙ ap (λ (o : Option (List Secret)). if_met o (λ next. secrets_after_all born later next)) unmet

all_none : (born : ℕ) (before : List Secret) → secrets_after_all born [] before ≡ Some before
unfolding secrets_after_all
all_none born before = refl

-- none is left
pub all_met : (born : ℕ) (demands : List Demand) (now : List Secret) (all : Option (List Secret)) → demands ≡ [] → secrets_after_all born demands now ≡ all → all ≡ Some now
all_met born demands now all is so_far = sym so_far ∙ ap (λ (ds : List Demand). secrets_after_all born ds now) is ∙ all_none born now

-- ---- what is asked for

pub demands_allowed : (output : List ℕ) (action : Action) → Spells action_format output action → All demand_format.Allowed action.demands
unfolding action_format
demands_allowed output action spelled = All-from_recursion demand_format.Allowed action.demands (items_all demand_format (length action.demands) action.demands spelled.allowed.0.1).1

pub answer_short : (output : List ℕ) (action : Action) → Spells action_format output action → length action.answer ≤ 128
unfolding action_format
answer_short output action spelled = omega (arith, spelled.allowed.1.0.1)

-- secrets that are kept fit the memory that is taken for them
secret_fits : (secret : Secret) → secret_format.Allowed secret → FitsSpare secret
unfolding secret_format
secret_fits secret allowed = record { name = omega (arith, allowed.0.0.1); value = omega (arith, allowed.1.0.0.1) }

pub secrets_fit : (secrets : List Secret) → AreKept secrets → All FitsSpare secrets
secrets_fit secrets are = All-weaker secret_format.Allowed FitsSpare secret_fits secrets are.storable.secrets

-- the region with the secrets that are asked for
pub acted_is : (number : ℕ) (output : List ℕ) (region : Region) (secrets : List Secret) (answer : List ℕ) → IsActionDone number output region.secrets secrets answer
    → IsActed number output region (record { region = record { secrets = secrets; keys = region.keys }; answer = answer })
acted_is number output region secrets answer is = record { action = is.action; spelled = is.spelled; met = is.met; keys = refl; answer = is.answers }

pub acted_fits : (number : ℕ) (output : List ℕ) (region : Region) (secrets : List Secret) (answer : List ℕ) → IsKeptRegion region → IsActionDone number output region.secrets secrets answer
    → CanBeAnswered (record { region = record { secrets = secrets; keys = region.keys }; answer = answer })
acted_fits number output region secrets answer kept is = record {
  kept = record {
    storable = record {
      secrets = is.kept.storable.secrets;
      few_secrets = is.kept.storable.few_secrets;
      keys = kept.storable.keys;
      few_keys = kept.storable.few_keys;
    };
    names = is.kept.names;
  };
  short = subst (λ (xs : List ℕ). length xs ≤ 128) (sym is.answers) (answer_short output is.action is.spelled);
}

pub region_keeps : (region : Region) → IsKeptRegion region → AreKept region.secrets
region_keeps region kept = record {
  storable = record {
    secrets = kept.storable.secrets;
    few_secrets = kept.storable.few_secrets;
    keys = All-nil region_key_format.Allowed;
    few_keys = omega arith;
  };
  names = kept.names;
}

-- what came of the run, by what came of doing what it asks for
pub acts_on : (code input : List ℕ) (seen : ℕ → Option (List Secret)) (number : ℕ) (before : Region) (output read : List ℕ) (result : Option Acted) → read ≡ output → EndsWithOutput code input seen true output
    → MatchOption result (IsNotActed number read before.secrets) (λ acted. IsActed number read before acted) → ActsOn code input seen number before result
acts_on code input seen number before output read None same ended is = asks_badly output ended (subst (λ (xs : List ℕ). IsNotActed number xs before.secrets) same is)
acts_on code input seen number before output read (Some acted) same ended is = record { output = output; ended = ended; is = subst (λ (xs : List ℕ). IsActed number xs before acted) same is }

-- what cannot be met of the secrets that are listed
pub unmet : (number : ℕ) (output : List ℕ) (action : Action) (secrets listed : List Secret) → Spells action_format output action → listed ≡ secrets → secrets_after_all number action.demands listed ≡ None
    → IsNotActed number output secrets
unmet number output action secrets listed spelled same is = is_unmet action spelled (ap (λ (xs : List Secret). secrets_after_all number action.demands xs) (sym same) ∙ is)
