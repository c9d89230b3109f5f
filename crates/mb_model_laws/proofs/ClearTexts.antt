-- Texts are clear where the lines of the grammar stand for at most one value, and some lines stand for one.
use Rattle.std.proofs.Common.{◌≡◌, ℕ, ◌+◌, List, [], ◌∷◌, ◌++◌, length, refl, sym, subst, ◌∙◌, append_assoc, rules}
use Rattle.std.specs.Prelude.{codes}
use Rattle.std.proofs.lemmas.List.{append-nil}
use Rattle.mb_model.specs.chains.Lines.{IsBeginning, FailsAtLine, bad_line, ends_early}
use Rattle.mb_model.specs.chains.Script.{IsScript}
use Rattle.mb_model.specs.chains.Drafts.{IsDraft}
use Rattle.mb_model.specs.chains.OrderLines.{IsOrderLine, IsStatementLine}
use Rattle.mb_model_laws.specs.TextLaws.{IsClearText}
use Rattle.mb_model_lemmas.specs.SampleOrder.{surrender, surrender_line}
use Rattle.mb_model_lemmas.proofs.LineLemmas.{HasLines-same, HasLines-always, FailsAtLine-same, FailsAtLine-none}
use Rattle.mb_model_lemmas.proofs.EventLemmas.{IsScript-same}
use Rattle.mb_model_lemmas.proofs.DraftLemmas.{IsDraft-same, surrender_draft}
use Rattle.mb_model_lemmas.proofs.OrderLineLemmas.{IsOrderLine-same, IsStatementLine-same, surrender_is, some_statement, some_line, some_statement_is}

-- ---- a text stands for something or has a first wrong line

-- Where no line of a text is the first that is wrong, and some text begins with these lines of it, some text begins with
-- all of them. Neither of the two is shown, only that it can't be otherwise.
grows : {A : Type 0} (Grammar : List (List ℕ) → A → Type 0) (lines before rest : List (List ℕ)) → lines ≡ before ++ rest
    → ((n : ℕ) → FailsAtLine Grammar lines n → ⊥)
    → ((IsBeginning Grammar before → ⊥) → ⊥) → (IsBeginning Grammar lines → ⊥) → ⊥
grows {A} Grammar lines before [] split right begins none =
    begins (λ b. none (subst (λ (x : List (List ℕ)). IsBeginning Grammar x) (sym (split ∙ append-nil before)) b))
grows {A} Grammar lines before (line ∷ rest) split right begins none =
    grows Grammar lines (before ++ line ∷ []) rest (split ∙ sym (append_assoc before (line ∷ []) rest)) right
    (λ bad. begins (λ good. right (length before + 1) (bad_line (record {
      before = before;
      line = line;
      later = rest;
      split = split;
      good = good;
      bad = bad;
      number = refl;
    })))) none

-- the lines of a grammar of which some lines are one
settled : {A : Type 0} (Grammar : List (List ℕ) → A → Type 0) (lines : List (List ℕ)) → IsBeginning Grammar []
    → ((value : A) → Grammar lines value → ⊥) → ((n : ℕ) → FailsAtLine Grammar lines n → ⊥) → ⊥
settled {A} Grammar lines first none right =
    grows Grammar lines [] lines refl right (λ no. no first)
    (λ good. right (length lines + 1) (ends_early (record { good = good; unfinished = none; number = refl })))

-- ---- clear texts

pub clear : {A : Type 0} (Grammar : List (List ℕ) → A → Type 0)
    → ((lines : List (List ℕ)) (a b : A) → Grammar lines a → Grammar lines b → a ≡ b)
    → (some : List (List ℕ)) (value : A) → Grammar some value → IsClearText Grammar
clear {A} Grammar one some value stands = record {
  one_value = λ text a b ra rb.
      let same = HasLines-same text ra.lines rb.lines ra.has rb.has in
      one rb.lines a b (subst (λ (x : List (List ℕ)). Grammar x a) same ra.stands) rb.stands;
  one_line = λ text m n fm fn.
      let same = HasLines-same text fm.lines fn.lines fm.has fn.has in
      FailsAtLine-same Grammar fn.lines m n (subst (λ (x : List (List ℕ)). FailsAtLine Grammar x m) same fm.fails) fn.fails;
  never_both = λ text a n ra fn.
      let same = HasLines-same text ra.lines fn.lines ra.has fn.has in
      FailsAtLine-none Grammar fn.lines a n (subst (λ (x : List (List ℕ)). Grammar x a) same ra.stands) fn.fails;
  never_neither = λ text none right.
      let has = HasLines-always text in
      settled Grammar has.0 (record { more = some; value = value; stands = stands })
      (λ a is. none a (record { lines = has.0; has = has.1; stands = is }))
      (λ n fails. right n (record { lines = has.0; has = has.1; fails = fails }));
}

-- ---- some lines of each grammar

no_events : IsScript [] []
no_events = record { said = search (rules); most = search (rules) }

pub scripts : IsClearText IsScript
scripts = clear IsScript IsScript-same [] [] no_events

pub drafts : IsClearText IsDraft
drafts = clear IsDraft IsDraft-same (codes "order surrender 2" ∷ codes "target length 7" ∷ []) surrender surrender_draft

pub order_lines : IsClearText IsOrderLine
order_lines = clear IsOrderLine IsOrderLine-same (surrender_line ∷ []) surrender surrender_is

pub statement_lines : IsClearText IsStatementLine
statement_lines = clear IsStatementLine IsStatementLine-same (some_line ∷ []) some_statement some_statement_is
