-- What a flash that is not divided into segments holds, found piece by piece.
use Rattle.std.proofs.Common.{◌≡◌, ℕ, List, Option, None, Some, sym, ap, subst, ◌∙◌, arith}
use Rattle.std.specs.Prelude.{MatchOption}
use Rattle.mb_format.specs.Format.{IsBytes}
use Rattle.mb_model.specs.declared.entry.Entry.{Entry}
use Rattle.mb_model.specs.declared.entry.PublicEntry.{PublicEntry}
use Rattle.mb_model.specs.declared.entry.SignedEntry.{SignedEntry}
use Rattle.mb_model.specs.declared.stored.Public.{Public}
use Rattle.mb_model.specs.declared.stored.Root.{Root}
use Rattle.mb_model.specs.memories.PublicRecord.{public_format}
use Rattle.mb_model.specs.memories.OldFlash.{flash_area, BeginsWithRecord, public_of_parts, HeldPublic}
use Rattle.mb_model.specs.memories.Faults.{SomePublicBy}
use Rattle.mb_layout.specs.Found.{FindsBy}
use Rattle.mb_model.proofs.RecordFormatLaws.{public_exact}
use Rattle.mb_model_lemmas.proofs.MeaningLemmas.{one_begun, IsBytes-flash_area}
use Rattle.mb_migrate.specs.Entries.{IsSplitLog}

-- ---- the public record

-- nothing is held where no record begins the area
pub none_begins : (flash : List ℕ) (root : Root) (area : List ℕ) (found : Option Public) → area ≡ flash_area flash root.area
    → FindsBy (λ (public : Public). public) (BeginsWithRecord public_format area) found → found ≡ None → SomePublicBy HeldPublic flash root → ⊥
none_begins flash root area None is finds none some =
    finds _ (subst (λ (a : List ℕ). BeginsWithRecord public_format a (public_of_parts some.0 some.1 some.2)) (sym is) some.3.begins)
none_begins flash root area (Some public) is finds none some = absurd (grind (arith, none))

-- what an area begins with
begins_with : (flash : List ℕ) (root : Root) (area : List ℕ) (found : Option Public) (public : Public) → area ≡ flash_area flash root.area
    → FindsBy (λ (p : Public). p) (BeginsWithRecord public_format area) found → found ≡ Some public → BeginsWithRecord public_format (flash_area flash root.area) public
begins_with flash root area found public is finds some =
    subst (λ (a : List ℕ). BeginsWithRecord public_format a public) is (subst (λ (o : Option Public). FindsBy (λ (p : Public). p) (BeginsWithRecord public_format area) o) some finds)

-- nor is anything held where the entries are not signed as the root says
pub none_split : (flash : List ℕ) (root : Root) (area : List ℕ) (found : Option Public) (public : Public) (entries : List PublicEntry) {X : Type 0} (Q : X → Type 0) (split : Option X)
    → IsBytes flash → area ≡ flash_area flash root.area
    → FindsBy (λ (p : Public). p) (BeginsWithRecord public_format area) found → found ≡ Some public → entries ≡ public.entries
    → MatchOption split ((signed : List SignedEntry) (unsigned : List Entry) → IsSplitLog entries root.pending signed unsigned → ⊥) Q → split ≡ None
    → SomePublicBy HeldPublic flash root → ⊥
none_split flash root area found public entries Q (Some x) are is finds there entries_are fails none some = absurd (grind (arith, none))
none_split flash root area found public entries Q None are is finds there entries_are fails none some =
    let begins = begins_with flash root area found public is finds there in
    let same : public ≡ public_of_parts some.0 some.1 some.2 =
    one_begun public_format public_exact (flash_area flash root.area) public _ (IsBytes-flash_area flash root.area are) begins some.3.begins
    in
    fails some.1 some.2 (record { whole = entries_are ∙ ap (λ (p : Public). p.entries) same; counted = some.3.counted })
