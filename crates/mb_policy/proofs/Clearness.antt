-- A text is read in one way, and a report is judged in one way.
use Rattle.std.proofs.Common.{◌≡◌, ℕ, zero, suc, ◌+◌, ◌<◌, inl, inr, Bool, true, false, List, [], ◌∷◌, ◌++◌, length, Option, Some, None, refl, sym, ap, subst, ◌∙◌, arith}
use Rattle.std.specs.Prelude.{slice_get}
use Rattle.std.proofs.lemmas.Bool.{cases_lt, cases_order, false≢true}
use Rattle.mb_model.specs.declared.state.Configuration.{Configuration}
use Rattle.mb_model.specs.declared.state.Report.{Report}
use Rattle.mb_model.specs.chains.Lines.{FailsAtLine}
use Rattle.mb_model_lemmas.proofs.LineLemmas.{HasLines-same, FailsAtLine-same, FailsAtLine-none}
use Rattle.mb_policy.specs.declared.judging.Judgement.{Judgement}
use Rattle.mb_policy.specs.declared.judging.Judgement.TheVariants as judgement
use Rattle.mb_policy.specs.Policies.{PolicyItem, SayItems, IsPolicy}
use Rattle.mb_policy.specs.Judging.{Ruling, ruling_at, AllowsFirst, DeniesFirst, IsJudged}
use Rattle.mb_policy.specs.Laws.{PoliciesAreClear, JudgementsAreClear}
use Rattle.mb_policy.proofs.PolicyReading.{SaysItem-same}

-- ---- texts

pub SayItems-same : (before : List PolicyItem) (lines : List (List ℕ)) (a b : List PolicyItem) → SayItems before lines a → SayItems before lines b → a ≡ b
SayItems-same before [] a b one other = one ∙ sym other
SayItems-same before (line ∷ lines) [] b one other = absurd one
SayItems-same before (line ∷ lines) (x ∷ a) [] one other = absurd other
SayItems-same before (line ∷ lines) (x ∷ a) (y ∷ b) one other =
    let first = SaysItem-same before line x y one.0 other.0 in
    let rest = SayItems-same (before ++ x ∷ []) lines a b one.1 (subst (λ (i : PolicyItem). SayItems (before ++ i ∷ []) lines b) (sym first) other.1) in
    ap (λ (i : PolicyItem). i ∷ a) first ∙ ap (λ (is : List PolicyItem). y ∷ is) rest

IsPolicy-same : (lines : List (List ℕ)) (a b : List PolicyItem) → IsPolicy lines a → IsPolicy lines b → a ≡ b
IsPolicy-same lines a b one other = SayItems-same [] _ a b one.said other.said

pub policies_clear : PoliciesAreClear
policies_clear = record {
  one_policy = λ text a b one other.
      IsPolicy-same one.lines a b one.stands (subst (λ (x : List (List ℕ)). IsPolicy x b) (HasLines-same text other.lines one.lines other.has one.has) other.stands);
  one_line = λ text m n one other.
      FailsAtLine-same IsPolicy one.lines m n one.fails
      (subst (λ (x : List (List ℕ)). FailsAtLine IsPolicy x n) (HasLines-same text other.lines one.lines other.has one.has) other.fails);
  never_both = λ text items n one other.
      FailsAtLine-none IsPolicy one.lines items n one.stands
      (subst (λ (x : List (List ℕ)). FailsAtLine IsPolicy x n) (HasLines-same text other.lines one.lines other.has one.has) other.fails);
}

-- ---- judgements

-- a configuration that is there has an index within the list
within : (xs : List Configuration) (i : ℕ) (x : Configuration) → slice_get xs i ≡ Some x → i < length xs
within [] i x e = absurd cc
within (y ∷ xs) zero x e = omega arith
within (y ∷ xs) (suc i) x e = let rest = within xs i x e in omega (arith, rest)

allowed_and_denied : (items : List PolicyItem) (report : Report) (n number : ℕ) (name : List ℕ) → AllowsFirst items report n → (is : DeniesFirst items report number name) → is.index < n → ⊥
allowed_and_denied items report n number name allowed is less =
    false≢true (sym (ap (λ (r : Ruling). r.allows) is.denied) ∙ allowed is.index is.configuration less is.there)

same_configuration : (report : Report) (i j : ℕ) (a b : Configuration) → i ≡ j → slice_get report.lives i ≡ Some a → slice_get report.lives j ≡ Some b → a ≡ b
same_configuration report i j a b same one other =
    let both : Some a ≡ Some b = sym one ∙ ap (slice_get report.lives) same ∙ other in
    cc

denied_same : (items : List PolicyItem) (report : Report) (m n : ℕ) (a b : List ℕ) (one : DeniesFirst items report m a) (other : DeniesFirst items report n b) → one.index ≡ other.index
    → judgement.Denied m a ≡ judgement.Denied n b
denied_same items report m n a b one other same =
    let here = same_configuration report one.index other.index one.configuration other.configuration same one.there other.there in
    let numbers : m ≡ n = one.number_is ∙ ap (λ (c : Configuration). c.number) here ∙ sym other.number_is in
    let names : a ≡ b =
    sym (ap (λ (r : Ruling). r.name) one.denied)
    ∙ ap (λ (i : ℕ). (ruling_at items report i one.configuration).name) same
    ∙ ap (λ (c : Configuration). (ruling_at items report other.index c).name) here
    ∙ ap (λ (r : Ruling). r.name) other.denied in
    ap (λ (k : ℕ). judgement.Denied k a) numbers ∙ ap (λ (x : List ℕ). judgement.Denied n x) names

judged_same : (items : List PolicyItem) (report : Report) (a b : Judgement) → IsJudged items report a → IsJudged items report b → a ≡ b
judged_same items report judgement.Allowed judgement.Allowed one other = refl
judged_same items report judgement.Allowed (judgement.Denied n b) one other =
    absurd (allowed_and_denied items report (length report.lives) n b one other (within report.lives other.index other.configuration other.there))
judged_same items report (judgement.Denied m a) judgement.Allowed one other =
    absurd (allowed_and_denied items report (length report.lives) m a other one (within report.lives one.index one.configuration one.there))
judged_same items report (judgement.Denied m a) (judgement.Denied n b) one other =
    elim (cases_order one.index other.index) [
      | inr (inl less) ↦ absurd (allowed_and_denied items report other.index m a other.before one less)
      | inl is ↦ denied_same items report m n a b one other is
      | inr (inr less) ↦ absurd (allowed_and_denied items report one.index n b one.before other less)
    ]

-- the first n configurations are allowed, or one of them is the first that is denied
data IsSeen (items : List PolicyItem) (report : Report) (n : ℕ) : Type 0 where
  all : AllowsFirst items report n → IsSeen items report n
  one : (number : ℕ) (name : List ℕ) → DeniesFirst items report number name → IsSeen items report n

seen_more : (items : List PolicyItem) (report : Report) (n : ℕ) (found : Option Configuration) → slice_get report.lives n ≡ found → AllowsFirst items report n → IsSeen items report (n + 1)
seen_more items report n None is allowed = all (λ index c less at.
    elim (cases_lt index n) [
      | inl before ↦ allowed index c before at
      | inr most ↦
          let place : index ≡ n = omega (arith, most, less) in
          let none : Some c ≡ None = sym at ∙ ap (slice_get report.lives) place ∙ is in
          absurd cc
    ])
seen_more items report n (Some configuration) is allowed = by (ruling_at items report n configuration) refl
  where
    by : (ruling : Ruling) → ruling_at items report n configuration ≡ ruling → IsSeen items report (n + 1)
    by ruling same = decide ruling.allows refl
      where
        decide : (b : Bool) → ruling.allows ≡ b → IsSeen items report (n + 1)
        decide true allows = all (λ index c less at.
            elim (cases_lt index n) [
              | inl before ↦ allowed index c before at
              | inr most ↦
                  let place : index ≡ n = omega (arith, most, less) in
                  let here = same_configuration report index n c configuration place at is in
                  ap (λ (i : ℕ). (ruling_at items report i c).allows) place ∙ ap (λ (x : Configuration). (ruling_at items report n x).allows) here ∙ ap (λ (r : Ruling). r.allows) same ∙ allows
            ])
        decide false denies = one configuration.number ruling.name (record {
          index = n;
          configuration = configuration;
          there = is;
          before = allowed;
          denied = same ∙ ap (λ (b : Bool). record { name = ruling.name; allows = b }) denies;
          number_is = refl;
        })

seen_all : (items : List PolicyItem) (report : Report) (n : ℕ) → IsSeen items report n
seen_all items report zero = all (λ index c less at. absurd (omega (arith, less)))
seen_all items report (suc n) = on (seen_all items report n)
  where
    next : n + 1 ≡ suc n
    next = omega arith

    on : IsSeen items report n → IsSeen items report (suc n)
    on (all allowed) = subst (λ (k : ℕ). IsSeen items report k) next (seen_more items report n (slice_get report.lives n) refl allowed)
    on (one number name is) = one number name is

always_judged : (items : List PolicyItem) (report : Report) → (j : Judgement) × IsJudged items report j
always_judged items report = by (seen_all items report (length report.lives))
  where
    by : IsSeen items report (length report.lives) → (j : Judgement) × IsJudged items report j
    by (all allowed) = (judgement.Allowed, allowed)
    by (one number name is) = (judgement.Denied number name, is)

pub judgements_clear : JudgementsAreClear
judgements_clear = record {
  one_judgement = judged_same;
  always_one = always_judged;
}
