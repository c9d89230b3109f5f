-- Which bytes of a memory its meaning is made of.
use Rattle.std.proofs.Common.{◌≡◌, ◌≢◌, ◌≤◌, ℕ, List, Option, None, Some, refl, sym, subst, ◌∙◌, arith}
use Rattle.mb_model.specs.declared.entry.Entry.{Entry}
use Rattle.mb_model.specs.declared.entry.SignedEntry.{SignedEntry}
use Rattle.mb_model.specs.declared.region.Region.{Region}
use Rattle.mb_model.specs.declared.state.Codes.{Codes}
use Rattle.mb_model.specs.declared.state.State.{State}
use Rattle.mb_model.specs.declared.stored.Root.{Root}
use Rattle.mb_model.specs.records.RootFormat.{root_format}
use Rattle.mb_model.specs.memories.Memory.{AreSized, IsBlank, life_byte, spare_bytes, area_of_slot, HoldsRecord}
use Rattle.mb_model.specs.memories.Flash.{HoldsPublic}
use Rattle.mb_model.specs.memories.Meaning.{RootIn, HoldsRegion, Contents, HoldsContents, state_of_contents, HasMeaning, is_dead, is_live, StandsFor}
use Rattle.mb_model_memory.specs.FlashInForce.{AgreeForArea}
use Rattle.mb_model_memory.specs.InForce.{AgreeInForce, AgreeBesides}
use Rattle.mb_model_memory.proofs.FlashFrames.{segments_stay, agree_turned}
use Rattle.mb_model_memory.proofs.CommitLemmas.{stands_for_meant, live_contents}

-- the root stands where its bytes do
root_moved : (bbram other_bbram : List ℕ) (root : Root) → life_byte other_bbram ≡ life_byte bbram → spare_bytes other_bbram ≡ spare_bytes bbram → area_of_slot other_bbram 1 ≡ area_of_slot bbram 1
    → RootIn bbram root → RootIn other_bbram root
root_moved bbram other_bbram root life between same has = record {
  alive = life ∙ has.alive;
  blank = subst IsBlank (sym between) has.blank;
  holds = subst (λ (area : List ℕ). HoldsRecord root_format area root) (sym same) has.holds;
}

pub agreement_turned : (flash bbram other_flash other_bbram : List ℕ) → AgreeInForce flash bbram other_flash other_bbram → AgreeInForce other_flash other_bbram flash bbram
agreement_turned flash bbram other_flash other_bbram agree =
    record {
      life = sym agree.life;
      between = sym agree.between;
      root = sym agree.root;
      two = sym agree.two;
      three = sym agree.three;
      public = λ root has. agree_turned flash other_flash root.area (agree.public root (root_moved other_bbram bbram root (sym agree.life) (sym agree.between) (sym agree.root) has));
    }

-- and so do all contents
pub contents_agree : (flash bbram other_flash other_bbram : List ℕ) (contents : Contents) → AgreeInForce flash bbram other_flash other_bbram
    → HoldsContents flash bbram contents → HoldsContents other_flash other_bbram contents
contents_agree flash bbram other_flash other_bbram c agree holds = record {
  root = root_moved bbram other_bbram c.root agree.life agree.between agree.root holds.root;
  public = segments_stay flash other_flash c.root c.codes c.signed c.unsigned (agree.public c.root holds.root) holds.public;
  two = subst (λ (area : List ℕ). HoldsRegion area c.two) (sym agree.two) holds.two;
  three = subst (λ (area : List ℕ). HoldsRegion area c.three) (sym agree.three) holds.three;
}

pub state_agrees : (flash bbram other_flash other_bbram : List ℕ) (state : State) → AreSized other_flash other_bbram → AgreeInForce flash bbram other_flash other_bbram
    → StandsFor flash bbram (Some state) → StandsFor other_flash other_bbram (Some state)
state_agrees flash bbram other_flash other_bbram state sized agree stands =
    let live = live_contents flash bbram state stands in
    let holds : HoldsContents other_flash other_bbram live.contents = contents_agree flash bbram other_flash other_bbram live.contents agree live.holds in
    stands_for_meant other_flash other_bbram live.contents state sized holds live.index (sym live.means)

dead_by : (flash bbram other_flash : List ℕ) (known : Option State) → known ≡ None → HasMeaning flash bbram known → HasMeaning other_flash bbram known
dead_by flash bbram other_flash known e (is_dead blank none) = is_dead blank none
dead_by flash bbram other_flash known e (is_live c holds index live) =
    let no : None ≡ Some (state_of_contents c) = sym e ∙ live in
    absurd (grind (arith, no))

pub dead_flash : (flash bbram other_flash : List ℕ) → AreSized other_flash bbram → StandsFor flash bbram None → StandsFor other_flash bbram None
dead_flash flash bbram other_flash sized stands = record { sized = sized; meaning = dead_by flash bbram other_flash None refl stands.meaning }

-- ---- one piece after another

-- the root stands, where the slot of another piece alone has changed
other_root : (slot : ℕ) (bbram other_bbram : List ℕ) (root : Root) → 1 ≢ slot → AgreeBesides slot bbram other_bbram → RootIn bbram root → RootIn other_bbram root
other_root slot bbram other_bbram root apart agree has = root_moved bbram other_bbram root agree.life agree.between (agree.others 1 (omega arith) (omega arith) apart) has

-- and so does a region
other_region : (slot m : ℕ) (bbram other_bbram : List ℕ) (region : Region) → 1 ≤ m → m ≤ 3 → m ≢ slot → AgreeBesides slot bbram other_bbram → HoldsRegion (area_of_slot bbram m) region → HoldsRegion (area_of_slot other_bbram m) region
other_region slot m bbram other_bbram region least most apart agree holds = subst (λ (area : List ℕ). HoldsRegion area region) (sym (agree.others m least most apart)) holds

pub two_replaced : (flash bbram other_bbram : List ℕ) (contents : Contents) (region : Region) → AgreeBesides 2 bbram other_bbram → HoldsRegion (area_of_slot other_bbram 2) region
    → HoldsContents flash bbram contents → HoldsContents flash other_bbram (record contents { two = region })
two_replaced flash bbram other_bbram c region agree own holds = record {
  root = other_root 2 bbram other_bbram c.root (λ e. omega (arith, e)) agree holds.root;
  public = holds.public;
  two = own;
  three = other_region 2 3 bbram other_bbram c.three (omega arith) (omega arith) (λ e. omega (arith, e)) agree holds.three;
}

pub three_replaced : (flash bbram other_bbram : List ℕ) (contents : Contents) (region : Region) → AgreeBesides 3 bbram other_bbram → HoldsRegion (area_of_slot other_bbram 3) region
    → HoldsContents flash bbram contents → HoldsContents flash other_bbram (record contents { three = region })
three_replaced flash bbram other_bbram c region agree own holds = record {
  root = other_root 3 bbram other_bbram c.root (λ e. omega (arith, e)) agree holds.root;
  public = holds.public;
  two = other_region 3 2 bbram other_bbram c.two (omega arith) (omega arith) (λ e. omega (arith, e)) agree holds.two;
  three = own;
}

pub root_replaced : (flash bbram other_bbram : List ℕ) (contents : Contents) (root : Root) (codes : Codes) (signed : List SignedEntry) (unsigned : List Entry)
    → AgreeBesides 1 bbram other_bbram → HoldsRecord root_format (area_of_slot other_bbram 1) root → HoldsPublic flash root codes signed unsigned → HoldsContents flash bbram contents
    → HoldsContents flash other_bbram (record contents { root = root; codes = codes; signed = signed; unsigned = unsigned })
root_replaced flash bbram other_bbram c root codes signed unsigned agree own public holds = record {
  root = record { alive = agree.life ∙ holds.root.alive; blank = subst IsBlank (sym agree.between) holds.root.blank; holds = own };
  public = public;
  two = other_region 1 2 bbram other_bbram c.two (omega arith) (omega arith) (λ e. omega (arith, e)) agree holds.two;
  three = other_region 1 3 bbram other_bbram c.three (omega arith) (omega arith) (λ e. omega (arith, e)) agree holds.three;
}

pub other_flash : (flash bbram other_flash : List ℕ) (contents : Contents) → AgreeForArea flash other_flash contents.root.area
    → HoldsContents flash bbram contents → HoldsContents other_flash bbram contents
other_flash flash bbram after c same holds = record {
  root = holds.root;
  public = segments_stay flash after c.root c.codes c.signed c.unsigned same holds.public;
  two = holds.two;
  three = holds.three;
}
