-- The figures of entries, counted one after another.
use Rattle.std.proofs.Common.{◌≡◌, ℕ, ◌+◌, ◌-◌, ◌^◌, ◌<◌, ◌≤◌, List, [], ◌∷◌, ◌++◌, length, take, Option, None, Some, refl, sym, ap, subst, ◌∙◌, append-nil, length-append, arith}
use Rattle.std.proofs.lemmas.List.{length-map}
use Rattle.std.proofs.Math.Seq.{append_snoc}
use Rattle.mb_model.specs.declared.entry.Entry.{Entry}
use Rattle.mb_model.specs.declared.entry.SignedEntry.{SignedEntry}
use Rattle.mb_model.specs.declared.state.Figures.{Figures}
use Rattle.mb_model.specs.memories.Flash.{sector, HoldsEntry, HoldsLog}
use Rattle.mb_model.specs.owners.Log.{figures_of, entries_of}
use Rattle.mb_model.specs.memories.Sectors.{log_sector}
use Rattle.mb_model_lemmas.proofs.ValidStates.{entries_of-push}

-- ---- the entries of a log in its sectors

-- i of the entries are counted
pub record IsCounting (figures : Figures) (i : ℕ) (log : List SignedEntry) : Type 0 where
  pub before : List SignedEntry
  pub rest : List SignedEntry
  pub whole : log ≡ before ++ rest
  pub passed : length before ≡ i
  pub counted : figures ≡ figures_of (entries_of before)

-- so it is with each log of this many entries that stands in its sectors
abbrev pub Counts : List ℕ → ℕ → Figures → ℕ → Type 0
Counts flash count figures i = (log : List SignedEntry) → HoldsLog flash log → length log ≡ count → IsCounting figures i log

pub counts_none : (flash : List ℕ) (count : ℕ) (figures : Figures) → figures ≡ figures_of [] → Counts flash count figures 0
counts_none flash count figures none = λ log holds size. record { before = []; rest = log; whole = refl; passed = refl; counted = none }

-- the entry that a sector holds is told, and counted
abbrev pub Tells : List ℕ → ℕ → Option Entry → Type 0
Tells flash position told = (signed : SignedEntry) → HoldsEntry (sector flash (log_sector position)) signed → told ≡ Some signed.entry

abbrev pub Adds : Figures → Entry → Figures → Type 0
Adds figures entry after = (before : List Entry) → length before < 2 ^ 32 - 1 → figures ≡ figures_of before → after ≡ figures_of (before ++ entry ∷ [])

some_is : (a b : Entry) → ◌≡◌ {A = Option Entry} (Some a) (Some b) → a ≡ b
some_is a b e = grind (arith, e)

none_told : (a : Entry) → ◌≡◌ {A = Option Entry} None (Some a) → ⊥
none_told a e = grind (arith, e)

-- what is told at the place that the count has come to
told_here : (flash : List ℕ) (i : ℕ) (told : Option Entry) (log before : List SignedEntry) (first : SignedEntry) (others : List SignedEntry) → HoldsLog flash log → log ≡ before ++ first ∷ others → length before ≡ i → Tells flash i told
    → told ≡ Some first.entry
told_here flash i told log before first others holds whole passed tells =
    tells first (subst (λ n. HoldsEntry (sector flash (log_sector n)) first) passed (holds.each before first others whole))

count_one : (flash : List ℕ) (count : ℕ) (figures after : Figures) (i : ℕ) (entry : Entry) (log : List SignedEntry) → i < count → count ≤ 128 → HoldsLog flash log → length log ≡ count → Tells flash i (Some entry) → Adds figures entry after
    → (rest before : List SignedEntry) → log ≡ before ++ rest → length before ≡ i → figures ≡ figures_of (entries_of before) → IsCounting after (i + 1) log
count_one flash count figures after i entry log lt few holds size tells adds [] before whole passed counted = absurd (omega (arith, lt, size, passed, ap length whole, length-append before []))
count_one flash count figures after i entry log lt few holds size tells adds (first ∷ others) before whole passed counted =
    let same : entry ≡ first.entry = some_is entry first.entry (told_here flash i (Some entry) log before first others holds whole passed tells) in
    let small : length (entries_of before) < 2 ^ 32 - 1 = omega (arith, length-map before (λ (signed : SignedEntry). signed.entry), passed, lt, few) in
    let more : after ≡ figures_of (entries_of before ++ entry ∷ []) = adds (entries_of before) small counted in
    record {
      before = before ++ first ∷ [];
      rest = others;
      whole = whole ∙ sym (append_snoc before first others);
      passed = omega (arith, length-append before (first ∷ []), passed);
      counted = more ∙ ap (λ (e : Entry). figures_of (entries_of before ++ e ∷ [])) same ∙ ap figures_of (sym (entries_of-push before first));
    }

pub counts_more : (flash : List ℕ) (count : ℕ) (figures after : Figures) (i : ℕ) (entry : Entry) → i < count → count ≤ 128 → Counts flash count figures i → Tells flash i (Some entry) → Adds figures entry after → Counts flash count after (i + 1)
counts_more flash count figures after i entry lt few counts tells adds = λ log holds size. (
    let is = counts log holds size in
    count_one flash count figures after i entry log lt few holds size tells adds is.rest is.before is.whole is.passed is.counted)

none_left : (flash : List ℕ) (count i : ℕ) (log : List SignedEntry) → i < count → HoldsLog flash log → length log ≡ count → Tells flash i None → (rest before : List SignedEntry) → log ≡ before ++ rest → length before ≡ i → ⊥
none_left flash count i log lt holds size tells [] before whole passed = absurd (omega (arith, lt, size, passed, ap length whole, length-append before []))
none_left flash count i log lt holds size tells (first ∷ others) before whole passed = none_told first.entry (told_here flash i None log before first others holds whole passed tells)

-- it is told at each place of the log
pub counts_still : (flash : List ℕ) (count : ℕ) (figures : Figures) (i : ℕ) → i < count → Counts flash count figures i → Tells flash i None → Counts flash count figures (i + 1)
counts_still flash count figures i lt counts tells = λ log holds size. (
    let is = counts log holds size in
    absurd (none_left flash count i log lt holds size tells is.rest is.before is.whole is.passed))

all_counted : (log before rest : List SignedEntry) → log ≡ before ++ rest → length log ≤ length before → before ≡ log
all_counted log before [] whole most = sym (whole ∙ append-nil before)
all_counted log before (first ∷ others) whole most = absurd (omega (arith, most, ap length whole, length-append before (first ∷ others)))

pub counts_all : (flash : List ℕ) (count : ℕ) (figures : Figures) (i : ℕ) → count ≤ i → Counts flash count figures i → (log : List SignedEntry) → HoldsLog flash log → length log ≡ count → figures ≡ figures_of (entries_of log)
counts_all flash count figures i done counts = λ log holds size. (
    let is = counts log holds size in
    is.counted ∙ ap (λ (es : List SignedEntry). figures_of (entries_of es)) (all_counted log is.before is.rest is.whole (omega (arith, done, size, is.passed))))

-- ---- the entries that an order appends

-- so many of the entries are counted after those of any log that was counted before
abbrev pub CountsAfter : Figures → Figures → List Entry → ℕ → Type 0
CountsAfter old figures entries i =
    (log : List Entry) → length log + length entries ≤ 1000 → old ≡ figures_of log → figures ≡ figures_of (log ++ take i entries)
