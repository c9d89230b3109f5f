-- Tables of labels, line after line.
use Rattle.std.proofs.Common.{◌≡◌, ◌⊎◌, ◌↔◌, ℕ, ◌+◌, ◌<◌, inl, inr, List, [], ◌∷◌, ◌++◌, length, take, get_or, Bool, true, false, cond, ◌||◌, Option, Some, None, is_some, refl, sym, ap, subst, ◌∙◌, arith, length-take, true≢false}
use Rattle.std.specs.Prelude.{IsTrue}
use Rattle.std.specs.List.{position_from}
use Rattle.std.specs.Ordering.{nat_cmp}
use Rattle.std.specs.Str.{bytes_eq}
use Rattle.std.specs.Cmp.Lexicographic.{slice_cmp}
use Rattle.std.specs.BTreeMap.{BTreeMap, UpdatesBy}
use Rattle.std.proofs.Common.{Bor}
use Rattle.std.proofs.lemmas.List.{take_more}
use Rattle.std.proofs.lemmas.Map.Text.{btree_map_updates_str}
use Rattle.mb_format.specs.Combinators.{same_bytes}
use Rattle.mb_format.proofs.Fields.{same_bytes-true, same_bytes-refl}
use Rattle.mb_words.specs.Words.{SplitsLine}
use Rattle.mb_appvm.specs.declared.table.Labels.{Labels}
use Rattle.mb_appvm.specs.declared.lines.Said.{Said}
use Rattle.mb_appvm.specs.declared.lines.Said.TheVariants as says
use Rattle.mb_appvm.specs.Assembly.{SaysAssemblyLine, is_label}
use Rattle.mb_appvm.specs.Checking.{TextGives}
use Rattle.mb_appvm.specs.Labels.{line_at, AreOfLines, AreOfText, kept_or, IsAdded, HasMore}
use Rattle.mb_appvm.proofs.Labels.{is_label-true, gives_on, gives_here, gives_parts, none_given}
use Rattle.mb_appvm.proofs.Names.{same_is}
use Rattle.mb_appvm.proofs.Positions.{position_push}
use Rattle.mb_appvm.proofs.Words.{SaysLine-same}

-- ---- one label more

kept_false : (o : Option ℕ) (at : ℕ) → kept_or o false at ≡ o
kept_false (Some line) at = refl
kept_false None at = refl

kept_some : (o : Option ℕ) (gives : Bool) (at : ℕ) → is_some (kept_or o gives at) ≡ (is_some o || gives)
kept_some (Some line) gives at = refl
kept_some None true at = refl
kept_some None false at = refl

kept_there : (o : Option ℕ) (gives : Bool) (at : ℕ) → is_some o ≡ true → o ≡ kept_or o gives at
kept_there (Some line) gives at there = refl
kept_there None gives at there = absurd (true≢false (sym there))

missing : (o : Option ℕ) → is_some o ≡ false → o ≡ None
missing None is = refl
missing (Some line) is = absurd (true≢false is)

-- a new label
pub added_new : (old : Labels) (lines : BTreeMap (Bor (List ℕ)) ℕ) (name : List ℕ) (at : ℕ) → is_some (line_at old name) ≡ false
    → UpdatesBy (λ (x y : Bor (List ℕ)). slice_cmp nat_cmp x.now y.now) (λ (key : Bor (List ℕ)). slice_cmp nat_cmp name key.now) old.lines lines (Some at)
    → IsAdded old (says.Label name) at (record { lines = lines })
added_new old lines name at none updates other = btree_map_updates_str name old.lines lines (Some at) updates other ∙ by (same_bytes name other) refl
  where
    by : (b : Bool) → same_bytes name other ≡ b → cond (bytes_eq name other) (Some at) (line_at old other) ≡ kept_or (line_at old other) (same_bytes name other) at
    by true is =
        let gone : line_at old other ≡ None = missing (line_at old other) (ap (λ (bytes : List ℕ). is_some (line_at old bytes)) (sym (same_bytes-true name other is)) ∙ none) in
        ap (λ (b : Bool). cond b (Some at) (line_at old other)) (same_is name other ∙ is)
        ∙ sym (ap (λ (o : Option ℕ). kept_or o (same_bytes name other) at) gone ∙ ap (λ (b : Bool). kept_or None b at) is)
    by false is =
        ap (λ (b : Bool). cond b (Some at) (line_at old other)) (same_is name other ∙ is)
        ∙ sym (ap (λ (b : Bool). kept_or (line_at old other) b at) is ∙ kept_false (line_at old other) at)

-- a label that is there
pub added_again : (labels : Labels) (name : List ℕ) (at : ℕ) → is_some (line_at labels name) ≡ true → IsAdded labels (says.Label name) at labels
added_again labels name at there other = by (same_bytes name other) refl
  where
    by : (b : Bool) → same_bytes name other ≡ b → line_at labels other ≡ kept_or (line_at labels other) (same_bytes name other) at
    by true is =
        kept_there (line_at labels other) (same_bytes name other) at (ap (λ (bytes : List ℕ). is_some (line_at labels bytes)) (sym (same_bytes-true name other is)) ∙ there)
    by false is = sym (ap (λ (b : Bool). kept_or (line_at labels other) b at) is ∙ kept_false (line_at labels other) at)

-- a line that gives no label
pub added_none : (labels : Labels) (line : Said) (at : ℕ) → ((name : List ℕ) → is_label name line ≡ false) → IsAdded labels line at labels
added_none labels line at none name = sym (ap (λ (b : Bool). kept_or (line_at labels name) b at) (none name) ∙ kept_false (line_at labels name) at)

-- ---- line after line

pub none_of_lines : (said : List Said) (labels : Labels) → ((name : List ℕ) → line_at labels name ≡ None) → AreOfLines (take 0 said) labels
none_of_lines said labels none name = none name

pub line_more : (said : List Said) (at : ℕ) (s d : Said) (old new : Labels) → at < length said → s ≡ get_or said at d → AreOfLines (take at said) old → IsAdded old s at new
    → AreOfLines (take (at + 1) said) new
line_more said at s d old new within is are added name =
    added name ∙ ap (λ (o : Option ℕ). kept_or o (is_label name s) at) (are name)
    ∙ ap (λ (n : ℕ). kept_or (position_from (is_label name) 0 (take at said)) (is_label name s) n) (omega (arith, within, length-take at said))
    ∙ sym (position_push (is_label name) 0 (take at said) s)
    ∙ ap (position_from (is_label name) 0) (sym (take_more said at d within ∙ ap (λ (x : Said). take at said ++ x ∷ []) (sym is)))

-- ---- a text, line by line

either_true : (a b : Bool) → (a || b) ≡ true → (a ≡ true) ⊎ (b ≡ true)
either_true true b is = inl refl
either_true false b is = inr is

first_true : (a b : Bool) → a ≡ true → (a || b) ≡ true
first_true a b is = ap (λ (x : Bool). x || b) is

last_true : (a b : Bool) → b ≡ true → (a || b) ≡ true
last_true true b is = refl
last_true false b is = is

pub more_by_line : (old new : Labels) (line : List ℕ) (s : Said) → SaysAssemblyLine line s → IsAdded old s 0 new → HasMore old line new
more_by_line old new line s is added name =
    let test = ap is_some (added name) ∙ kept_some (line_at old name) (is_label name s) 0 in (
      (λ has.
          elim (either_true (is_some (line_at old name)) (is_label name s) (sym test ∙ has)) [
            | inl had ↦ inl had
            | inr gives ↦ inr (subst (λ (x : Said). SaysAssemblyLine line x) (is_label-true s name gives) is)
          ]),
      (λ found.
          elim found [
            | inl had ↦ test ∙ first_true (is_some (line_at old name)) (is_label name s) had
            | inr says_it ↦ test ∙ last_true (is_some (line_at old name)) (is_label name s)
                (ap (is_label name) (SaysLine-same line s (says.Label name) is says_it) ∙ same_bytes-refl name)
          ]),
    )

pub same_by_line : (labels : Labels) (line : List ℕ) → ((s : Said) → SaysAssemblyLine line s → ⊥) → HasMore labels line labels
same_by_line labels line none name = ((λ has. inl has), (λ found. elim found [ inl had ↦ had | inr is ↦ absurd (none (says.Label name) is) ]))

-- the labels of a text are those of the table and those of the rest
abbrev pub Cover : List ℕ → List ℕ → Labels → Type 0
Cover text rest labels = (name : List ℕ) → TextGives text name ↔ (IsTrue (is_some (line_at labels name)) ⊎ TextGives rest name)

pub none_cover : (text : List ℕ) (labels : Labels) → ((name : List ℕ) → line_at labels name ≡ None) → Cover text text labels
none_cover text labels none name = (
  (λ gives. inr gives),
  (λ found. elim found [ inl has ↦ absurd (true≢false (sym has ∙ ap is_some (none name))) | inr gives ↦ gives ]),
)

pub cover_more : (text rest line later : List ℕ) (old new : Labels) → Cover text rest old → SplitsLine rest line later → 0 < length rest → HasMore old line new → Cover text later new
cover_more text rest line later old new cover splits some more name = (
  (λ gives.
      elim ((cover name).0 gives) [
        | inl had ↦ inl ((more name).1 (inl had))
        | inr on ↦ elim (gives_parts rest line later name splits some on) [ inl is ↦ inl ((more name).1 (inr is)) | inr further ↦ inr further ]
      ]),
  (λ found.
      elim found [
        | inl has ↦ elim ((more name).0 has) [
          | inl had ↦ (cover name).1 (inl had)
          | inr is ↦ (cover name).1 (inr (gives_here rest line later name splits some is))
        ]
        | inr on ↦ (cover name).1 (inr (gives_on rest line later name splits some on))
      ]),
)

pub cover_all : (text rest : List ℕ) (labels : Labels) → Cover text rest labels → rest ≡ [] → AreOfText text labels
cover_all text rest labels cover none name = (
  (λ has. (cover name).1 (inl has)),
  (λ gives. elim ((cover name).0 gives) [ inl has ↦ has | inr on ↦ absurd (none_given rest name none on) ]),
)
