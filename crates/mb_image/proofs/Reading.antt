-- What a memory holds, found piece by piece.
use Rattle.std.proofs.Common.{◌≡◌, ℕ, List, Option, None, Some, sym, subst, arith}
use Rattle.std.specs.Prelude.{MatchOption}
use Rattle.std.proofs.lemmas.List.Elements.{All-weaker}
use Rattle.mb_model.specs.declared.entry.SignedEntry.{SignedEntry}
use Rattle.mb_model.specs.declared.region.Region.{Region}
use Rattle.mb_model.specs.declared.stored.Root.{Root}
use Rattle.mb_model.specs.records.EntryFormat.{entry_format, signed_entry_format}
use Rattle.mb_model.specs.records.RootFormat.{root_format}
use Rattle.mb_model.specs.memories.Meaning.{RootIn, HoldsRegion, Contents, FlashForm, HoldsContentsBy}
use Rattle.mb_model.specs.memories.Memory.{IsBlank, life_byte, spare_bytes, area_of_slot, HoldsRecord}
use Rattle.mb_model.specs.memories.Faults.{SomeRegion}
use Rattle.mb_layout.specs.Found.{FindsBy}
use Rattle.mb_model_lemmas.specs.FormLaws.{PublicPartsFit, HoldsFittingParts}
use Rattle.mb_model_lemmas.proofs.PublicLemmas.{bounded_by, entry_from_signed}
use Rattle.mb_image.specs.Forms.{CountsUnsigned}
use Rattle.mb_image.specs.Stored.{CanBeCompleted}

-- ---- regions

-- an area in which no region is found holds none
pub none_holds : (area held : List ℕ) (found : Option Region) → held ≡ area → FindsBy (λ (region : Region). region) (HoldsRegion held) found → found ≡ None → SomeRegion area → ⊥
none_holds area held None is finds none some = finds some.0 (subst (λ (a : List ℕ). HoldsRegion a some.0) (sym is) some.1)
none_holds area held (Some region) is finds none some = absurd (grind (arith, none))

-- and the region that is found is held
pub some_holds : (area held : List ℕ) (found : Option Region) (region : Region) → held ≡ area → FindsBy (λ (r : Region). r) (HoldsRegion held) found → found ≡ Some region → HoldsRegion area region
some_holds area held found region is finds some =
    subst (λ (a : List ℕ). HoldsRegion a region) is (subst (λ (o : Option Region). FindsBy (λ (r : Region). r) (HoldsRegion held) o) some finds)

-- ---- what is allowed

-- the contents of a memory can be completed
pub held_can_be_completed : (Form : FlashForm) → HoldsFittingParts Form → CountsUnsigned Form → (flash bbram : List ℕ) (contents : Contents) → HoldsContentsBy Form flash bbram contents → CanBeCompleted contents
held_can_be_completed Form fits counts flash bbram c holds =
    let root : root_format.Allowed c.root = holds.root.holds.spelled.allowed in
    let bounded = bounded_by c.root root in
    let fit : PublicPartsFit c.codes c.signed c.unsigned = fits flash c.root c.codes c.signed c.unsigned holds.public in
    record {
      uses = bounded.uses;
      outgoing = bounded.outgoing;
      few = fit.together;
      unsigned = omega (arith, (counts flash c.root c.codes c.signed c.unsigned holds.public).counted, bounded.unsigned);
      signed_spelled = All-weaker signed_entry_format.Allowed (λ (s : SignedEntry). entry_format.Allowed s.entry) entry_from_signed c.signed fit.signed_allowed;
      unsigned_spelled = fit.unsigned_allowed;
    }

-- ---- options

-- what a clause says of the value that is there
pub matched : {X : Type 0} (P : Type 0) (Q : X → Type 0) (found : Option X) (x : X) → found ≡ Some x → MatchOption found P Q → Q x
matched P Q found x is holds = subst (λ o. MatchOption o P Q) is holds

-- ---- the root

-- the root that is found where the memory is alive
pub root_found : (bbram area : List ℕ) (found : Option Root) → area ≡ area_of_slot bbram 1 → life_byte bbram ≡ 0xA5 → IsBlank (spare_bytes bbram)
    → FindsBy (λ (root : Root). root) (HoldsRecord root_format area) found
    → MatchOption found ((root : Root) → RootIn bbram root → ⊥) (λ root. RootIn bbram root)
root_found bbram area None is alive blank finds = λ root has. finds root (subst (λ (a : List ℕ). HoldsRecord root_format a root) (sym is) has.holds)
root_found bbram area (Some root) is alive blank finds = record { alive = alive; blank = blank; holds = subst (λ (a : List ℕ). HoldsRecord root_format a root) is finds }
