-- Laws of policies and of chains that a host has shortened. Can a host change by shortening what a policy comes to?
use Rattle.std.specs.Prelude.{◌≡◌, ℕ, Bool, true, false, ◌||◌, List, [], ◌∷◌, ◌++◌, codes, All}
use Rattle.mb_model.specs.declared.key.PublicKey.{PublicKey}
use Rattle.mb_model.specs.declared.state.Configuration.{Configuration}
use Rattle.mb_model.specs.declared.state.Report.{Report}
use Rattle.mb_model.specs.chains.Acceptance.{Accepts}
use Rattle.mb_model.specs.owners.Log.{entries_of}
use Rattle.mb_model_histories.specs.AgreementLaws.{IsPrefixOf}
use Rattle.mb_policy.specs.declared.judging.Judgement.TheVariants as judgement
use Rattle.mb_policy.specs.Examples.{allow_rule, deny_rule, small_configuration, small_report}
use Rattle.mb_policy.specs.Judging.{IsJudged}
use Rattle.mb_policy.specs.Policies.{Test, PolicyItem, set_item, rule_item, both_of, either_of, opposite}
use Rattle.mb_policy.specs.Policies.{comes_first, comes_last, key_lives, has_statement}
use Rattle.mb_policy.specs.Policies.{has_call, input_in, answer_in}

-- The test depends on the end of the chain: on whether a configuration is the last, whether the key is alive, and
-- whether there is a statement and what it says. All others look at the configuration, its place in the list, and the
-- kind of the key.
abbrev pub looks_at_end : Test → Bool
looks_at_end (both_of one other) = looks_at_end one || looks_at_end other
looks_at_end (either_of one other) = looks_at_end one || looks_at_end other
looks_at_end (opposite one) = looks_at_end one
looks_at_end comes_last = true
looks_at_end key_lives = true
looks_at_end has_statement = true
looks_at_end has_call = true
looks_at_end (input_in set) = true
looks_at_end (answer_in set) = true
looks_at_end _ = false

-- no test of the item depends on the end of the chain
abbrev pub IsBlindToEnd : PolicyItem → Type 0
IsBlindToEnd (set_item set) = Unit {0}
IsBlindToEnd (rule_item rule) = looks_at_end rule.test ≡ false

-- the reports are on keys of one kind, and the first lists a prefix of what the second lists
pub record IsShortened (short long : Report) : Type 0 where
  pub kind : short.kind ≡ long.kind
  pub rest : List Configuration
  pub lives : long.lives ≡ short.lives ++ rest

-- What a policy allows by a report, it allows by each shortened one, if no test of it depends on the end.
abbrev pub ShortenedReportsStayAllowed : Type 0
ShortenedReportsStayAllowed =
    (items : List PolicyItem) (short long : Report) → All IsBlindToEnd items → IsShortened short long
    → IsJudged items long judgement.Allowed → IsJudged items short judgement.Allowed

-- If of two accepted chains one is a prefix of the other, its report is a shortened one.
abbrev pub ShortenedChainsShortenReports : Type 0
ShortenedChainsShortenReports =
    (maker root : PublicKey) (short long : List ℕ) (key_number : ℕ) (one other : Report)
    → (accepts : Accepts maker short key_number one) (accepts_long : Accepts root long key_number other)
    → IsPrefixOf (entries_of accepts.chain.entries) (entries_of accepts_long.chain.entries) → IsShortened one other

-- That no test depends on the end cannot be left out: a policy with `last` allows a report of two configurations, and
-- denies that of the first alone.
abbrev pub EndsMatter : Type 0
EndsMatter =
    let items : List PolicyItem = deny_rule (codes "alone") (both_of comes_first comes_last)
    ∷ allow_rule (codes "any") (either_of comes_first (opposite comes_first)) ∷ [] in
    let short : Report = record small_report { lives = small_configuration 4 ∷ [] } in
    IsShortened short small_report × IsJudged items small_report judgement.Allowed
    × (IsJudged items short judgement.Allowed → ⊥)

-- A host can have a key allowed by leaving out a configuration that is denied: what a policy allows by a shortened
-- report, it need not allow by the whole.
abbrev pub ShorteningCanAllow : Type 0
ShorteningCanAllow =
    let items : List PolicyItem = allow_rule (codes "birth") comes_first ∷ [] in
    let short : Report = record small_report { lives = small_configuration 4 ∷ [] } in
    IsShortened short small_report × All IsBlindToEnd items × IsJudged items short judgement.Allowed
    × (IsJudged items small_report judgement.Allowed → ⊥)
