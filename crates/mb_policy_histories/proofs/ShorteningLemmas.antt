-- What a policy comes to by a report on a shortened chain.
use Rattle.std.proofs.Common.{◌≡◌, ℕ, ◌+◌, List, [], ◌∷◌, ◌++◌, length, Some, Bool, true, false, lit≤, refl, sym, ap, ◌∙◌, subst, arith, codes, length-append}
use Rattle.std.proofs.lemmas.Bool.{false≢true}
use Rattle.std.specs.Prelude.{◌&&◌, ◌||◌, not, zero, suc, All, slice_get, if◌then◌else◌}
use Rattle.std.proofs.lemmas.List.Elements.{All-nil, All-cons, All-head, All-tail}
use Rattle.std.proofs.lemmas.Option.{same_Some}
use Rattle.mb_model.specs.declared.entry.Entry.{Entry}
use Rattle.mb_model.specs.declared.order.KeyKind.{KeyKind}
use Rattle.mb_model.specs.declared.state.Configuration.{Configuration}
use Rattle.mb_model.specs.declared.state.Report.{Report}
use Rattle.mb_model.specs.chains.Acceptance.{KeyEntry, key_of}
use Rattle.mb_model.specs.owners.Log.{entries_of, RuledLog}
use Rattle.mb_model_lemmas.proofs.ChainLemmas.{accepted_is_ruled}
use Rattle.mb_model_lemmas.proofs.ReaderLemmas.{made_on}
use Rattle.mb_model_histories.proofs.AgreementLemmas.{shortened_chains_list_less}
use Rattle.mb_policy.specs.Examples.{allow_rule, deny_rule, small_configuration, small_report}
use Rattle.mb_policy.specs.Judging.{AllowsFirst, is_same_kind, holds, Ruling, ruling_at}
use Rattle.mb_policy.specs.Policies.{Test, PolicyItem, set_item, rule_item, both_of, either_of, opposite, owner_in_set, code_in_set, version_between, trust_is, reliable_at, number_between, comes_first, comes_last, kind_is, key_lives, has_statement, has_call, input_in, answer_in}
use Rattle.mb_policy_histories.specs.ShorteningLaws.{looks_at_end, IsBlindToEnd, IsShortened, ShortenedReportsStayAllowed, ShortenedChainsShortenReports, EndsMatter, ShorteningCanAllow}

first_false : (one other : Bool) → (one || other) ≡ false → one ≡ false
first_false true other e = absurd (grind (arith, e))
first_false false other e = refl

second_false : (one other : Bool) → (one || other) ≡ false → other ≡ false
second_false true other e = absurd (grind (arith, e))
second_false false other e = e

module _ (short long : Report) (kind : short.kind ≡ long.kind) (index : ℕ) (asked : Configuration) where
  -- whether the test holds of the configuration by the two reports
  in_short : Test → Bool
  in_short test = holds test (record { report = short; index = index; configuration = asked })

  in_long : Test → Bool
  in_long test = holds test (record { report = long; index = index; configuration = asked })

  holds_alike : (test : Test) → looks_at_end test ≡ false → in_short test ≡ in_long test
  unfolding in_short in_long
  holds_alike (both_of one other) blind =
      let first : looks_at_end one ≡ false = first_false (looks_at_end one) (looks_at_end other) blind in
      let second : looks_at_end other ≡ false = second_false (looks_at_end one) (looks_at_end other) blind in
      ap (λ b. b && in_short other) (holds_alike one first) ∙ ap (λ b. in_long one && b) (holds_alike other second)
  holds_alike (either_of one other) blind =
      let first : looks_at_end one ≡ false = first_false (looks_at_end one) (looks_at_end other) blind in
      let second : looks_at_end other ≡ false = second_false (looks_at_end one) (looks_at_end other) blind in
      ap (λ b. b || in_short other) (holds_alike one first) ∙ ap (λ b. in_long one || b) (holds_alike other second)
  holds_alike (opposite one) blind = ap not (holds_alike one blind)
  holds_alike (owner_in_set layer set) blind = refl
  holds_alike (code_in_set layer set) blind = refl
  holds_alike (version_between layer least most) blind = refl
  holds_alike (trust_is layer lower trust) blind = refl
  holds_alike (reliable_at layer) blind = refl
  holds_alike (number_between least most) blind = refl
  holds_alike comes_first blind = refl
  holds_alike comes_last blind = absurd (grind (arith, blind))
  holds_alike (kind_is asked_kind) blind = ap (λ (k : KeyKind). is_same_kind k asked_kind) kind
  holds_alike key_lives blind = absurd (grind (arith, blind))
  holds_alike has_statement blind = absurd (grind (arith, blind))
  holds_alike has_call blind = absurd (grind (arith, blind))
  holds_alike (input_in set) blind = absurd (grind (arith, blind))
  holds_alike (answer_in set) blind = absurd (grind (arith, blind))

  rules_alike : (items : List PolicyItem) → All IsBlindToEnd items → ruling_at items short index asked ≡ ruling_at items long index asked
  unfolding in_short in_long
  rules_alike [] blind = refl
  rules_alike (set_item set ∷ items) blind = rules_alike items (All-tail IsBlindToEnd (set_item set) items blind)
  rules_alike (rule_item rule ∷ items) blind =
      let own : looks_at_end rule.test ≡ false = All-head IsBlindToEnd (rule_item rule) items blind in
      let named : Ruling = record { name = rule.name; allows = rule.allows } in
      ap (λ b. if b then named else ruling_at items short index asked) (holds_alike rule.test own)
      ∙ ap (λ (r : Ruling). if in_long rule.test then named else r) (rules_alike items (All-tail IsBlindToEnd (rule_item rule) items blind))

-- what stands in a list stands in a longer one
stands_on : (lives rest : List Configuration) (index : ℕ) (asked : Configuration) → slice_get lives index ≡ Some asked → slice_get (lives ++ rest) index ≡ Some asked
stands_on [] rest index asked at = absurd (grind (arith, at))
stands_on (first ∷ lives) rest zero asked at = at
stands_on (first ∷ lives) rest (suc index) asked at = stands_on lives rest index asked at

pub shortened_reports_stay_allowed : ShortenedReportsStayAllowed
shortened_reports_stay_allowed items short long blind shortened allowed = λ index asked less listed.
    let more : length long.lives ≡ length short.lives + length shortened.rest = ap length shortened.lives ∙ length-append short.lives shortened.rest in
    let there : slice_get long.lives index ≡ Some asked = ap (λ lives. slice_get lives index) shortened.lives ∙ stands_on short.lives shortened.rest index asked listed in
    ap (λ (r : Ruling). r.allows) (rules_alike short long shortened.kind index asked items blind) ∙ allowed index asked (omega (arith, less, more)) there

pub shortened_chains_shorten_reports : ShortenedChainsShortenReports
shortened_chains_shorten_reports maker root short long n one other accepts accepts_long front =
    let entries : List Entry = entries_of accepts.chain.entries in
    let less = shortened_chains_list_less maker root short long n one other accepts accepts_long front in
    let named : key_of (entries ++ front.0) n ≡ Some accepts.made =
    made_on front.0 entries n accepts.made (subst RuledLog front.1 (accepted_is_ruled root long n other accepts_long)) accepts.named in
    let same : accepts.made ≡ accepts_long.made = same_Some accepts.made accepts_long.made (sym named ∙ ap (λ log. key_of log n) (sym front.1) ∙ accepts_long.named) in
    record {
      kind = ap (λ (r : Report). r.kind) accepts.report_is ∙ ap (λ (k : KeyEntry). k.kind) same ∙ ap (λ (r : Report). r.kind) (sym accepts_long.report_is);
      rest = less.0;
      lives = less.1;
    }

-- ---- values

shortened_small : IsShortened (record small_report { lives = small_configuration 4 ∷ [] }) small_report
shortened_small = record { kind = refl; rest = small_configuration 5 ∷ []; lives = refl }

-- a policy that denies what is first and last, and allows all else
abbrev end_policy : List PolicyItem
end_policy = deny_rule (codes "alone") (both_of comes_first comes_last) ∷ allow_rule (codes "any") (either_of comes_first (opposite comes_first)) ∷ []

both_allowed : AllowsFirst end_policy small_report 2
both_allowed zero asked less listed = refl
both_allowed (suc zero) asked less listed = refl
both_allowed (suc (suc index)) asked less listed = absurd (omega (arith, less))

pub ends_matter : EndsMatter
ends_matter = (shortened_small, both_allowed, λ allowed. false≢true (allowed 0 (small_configuration 4) (lit≤ tt) refl))

abbrev first_policy : List PolicyItem
first_policy = allow_rule (codes "birth") comes_first ∷ []

one_allowed : AllowsFirst first_policy (record small_report { lives = small_configuration 4 ∷ [] }) 1
one_allowed zero asked less listed = refl
one_allowed (suc index) asked less listed = absurd (omega (arith, less))

pub shortening_can_allow : ShorteningCanAllow
shortening_can_allow = (
  shortened_small,
  All-cons IsBlindToEnd (allow_rule (codes "birth") comes_first) [] refl (All-nil IsBlindToEnd),
  one_allowed,
  λ allowed. false≢true (allowed 1 (small_configuration 5) (lit≤ tt) refl),
)
