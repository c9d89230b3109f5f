-- The life of the examples obeys the rules of the log, entry by entry.
use Rattle.std.proofs.Common.{◌≡◌, ◌≢◌, ◌<◌, ℕ, inl, [], take, None, Some, replicate, refl, arith, lit<}
use Rattle.std.proofs.lemmas.Bool.{false≢true}
use Rattle.mb_model.specs.declared.order.KeyKind.TheVariants as kinds
use Rattle.mb_model.specs.declared.order.ChangeKind.TheVariants.{Establish, Load, Emergency}
use Rattle.mb_model.specs.declared.entry.Entry.TheVariants.{Birth, Change, NewKey}
use Rattle.mb_model.specs.owners.Rules.{after}
use Rattle.mb_model.specs.owners.Log.{figures_of, number_of, last_of, layers_of, uses_of_device_key, keys_made_by, has_version_two, Ruled, RuledLog}
use Rattle.mb_model_examples.specs.RuleExamples.{officer, nobody, by_two, by_both, at_birth, with_two, with_three, two_runs, three_runs, one_renewed, three_renewed, life}
use Rattle.mb_model_lemmas.proofs.LogLemmas.{RuledLog-nil, RuledLog-push}
use Rattle.mb_model_lemmas.proofs.RuleLemmas.{version_two_may_follow}

filled : (n : ℕ) → 0 < n → n ≢ 0
filled n some = λ none. omega (arith, some, none)

not_last : (n : ℕ) → n < 31 → n ≡ 31 → ⊥
not_last n less e = omega (arith, less, e)

birth : Ruled (figures_of []) (Birth 1 (replicate 16 9) (officer 10) at_birth)
unfolding has_version_two
birth = (
  refl,
  record { owned = refl; reliable = refl; two = refl; three = refl },
  record { known = inl refl; equal_trusts = λ first. record { one = refl; two = refl; three = refl }; rises = λ some. absurd (false≢true some) },
)

establish_two : Ruled (figures_of (take 1 life)) (Change 2 1 1 Establish 2 nobody with_two nobody None)
unfolding after number_of last_of layers_of uses_of_device_key
establish_two = (
  filled _ (lit< tt),
  record { counted = refl; renewed = refl; last_index = λ h. absurd (not_last 0 (lit< tt) h) },
  record {
    allowed = refl;
    placed = (refl, refl, refl);
    changed = refl;
    countersigned = record { two = λ h. absurd (false≢true h); three = λ h. absurd (false≢true h) };
    regions = refl;
  },
  version_two_may_follow _ _,
)

establish_three : Ruled (figures_of (take 2 life)) (Change 2 2 2 Establish 3 nobody with_three by_two None)
unfolding after number_of last_of layers_of uses_of_device_key
establish_three = (
  filled _ (lit< tt),
  record { counted = refl; renewed = refl; last_index = λ h. absurd (not_last 1 (lit< tt) h) },
  record {
    allowed = refl;
    placed = (refl, refl, refl);
    changed = refl;
    countersigned = record { two = λ h. absurd (false≢true h); three = λ h. absurd (false≢true h) };
    regions = refl;
  },
  version_two_may_follow _ _,
)

emergency_two : Ruled (figures_of (take 3 life)) (Change 2 3 3 Emergency 2 nobody two_runs nobody None)
unfolding after number_of last_of layers_of uses_of_device_key
emergency_two = (
  filled _ (lit< tt),
  record { counted = refl; renewed = refl; last_index = λ h. absurd (not_last 2 (lit< tt) h) },
  record {
    allowed = refl;
    placed = (refl, refl, refl);
    changed = refl;
    countersigned = record { two = λ h. absurd (false≢true h); three = λ h. absurd (false≢true h) };
    regions = refl;
  },
  version_two_may_follow _ _,
)

emergency_three : Ruled (figures_of (take 4 life)) (Change 2 4 4 Emergency 3 nobody three_runs by_two None)
unfolding after number_of last_of layers_of uses_of_device_key
emergency_three = (
  filled _ (lit< tt),
  record { counted = refl; renewed = refl; last_index = λ h. absurd (not_last 3 (lit< tt) h) },
  record {
    allowed = refl;
    placed = (refl, refl, refl);
    changed = refl;
    countersigned = record { two = λ h. absurd (false≢true h); three = λ h. absurd (false≢true h) };
    regions = refl;
  },
  version_two_may_follow _ _,
)

new_key : Ruled (figures_of (take 5 life)) (NewKey 5 4 1 3 kinds.Epoch (officer 11))
unfolding number_of last_of layers_of uses_of_device_key keys_made_by
new_key = (filled _ (lit< tt), record { counted = refl; key_counted = refl; allowed = refl; last_index = λ h. not_last 4 (lit< tt) h })

load_one : Ruled (figures_of (take 6 life)) (Change 2 6 5 Load 1 by_both one_renewed by_both (Some (officer 12)))
unfolding after number_of last_of layers_of uses_of_device_key
load_one = (
  filled _ (lit< tt),
  record { counted = refl; renewed = refl; last_index = λ h. refl },
  record {
    allowed = refl;
    placed = (refl, refl, refl);
    changed = refl;
    countersigned = record { two = λ h. refl; three = λ h. refl };
    regions = refl;
  },
  version_two_may_follow _ _,
)

load_three : Ruled (figures_of (take 7 life)) (Change 2 7 6 Load 3 nobody three_renewed by_both None)
unfolding after number_of last_of layers_of uses_of_device_key
load_three = (
  filled _ (lit< tt),
  record { counted = refl; renewed = refl; last_index = λ h. absurd (not_last 0 (lit< tt) h) },
  record {
    allowed = refl;
    placed = (refl, refl, refl);
    changed = refl;
    countersigned = record { two = λ h. absurd (false≢true h); three = λ h. absurd (false≢true h) };
    regions = refl;
  },
  version_two_may_follow _ _,
)

pub ruled : RuledLog life
ruled =
    let one : RuledLog (take 1 life) = RuledLog-push [] _ RuledLog-nil birth in
    let two : RuledLog (take 2 life) = RuledLog-push (take 1 life) _ one establish_two in
    let three : RuledLog (take 3 life) = RuledLog-push (take 2 life) _ two establish_three in
    let four : RuledLog (take 4 life) = RuledLog-push (take 3 life) _ three emergency_two in
    let five : RuledLog (take 5 life) = RuledLog-push (take 4 life) _ four emergency_three in
    let six : RuledLog (take 6 life) = RuledLog-push (take 5 life) _ five new_key in
    let seven : RuledLog (take 7 life) = RuledLog-push (take 6 life) _ six load_one in
    RuledLog-push (take 7 life) _ seven load_three
