-- Laws of what a memory holds while the work of an order is done. Does a device's memory mean one state from the commit
-- on, wherever the work is broken off?
use Rattle.std.specs.Prelude.{◌≡◌, ℕ, List, [], None, Some}
use Rattle.mb_format.specs.Format.{IsBytes}
use Rattle.mb_model.specs.declared.order.Order.{Order}
use Rattle.mb_model.specs.declared.entry.Entry.{Entry}
use Rattle.mb_model.specs.declared.entry.SignedEntry.{SignedEntry}
use Rattle.mb_model.specs.declared.region.Region.{Region}
use Rattle.mb_model.specs.declared.state.Codes.{Codes}
use Rattle.mb_model.specs.declared.state.State.{State}
use Rattle.mb_model.specs.declared.stored.Root.{Root}
use Rattle.mb_model.specs.owners.Log.{entries_of, layers_of}
use Rattle.mb_model.specs.records.OrderFormat.{order_format}
use Rattle.mb_model.specs.records.RootFormat.{root_format}
use Rattle.mb_model.specs.machine.OrderChecks.{Passes, view_of}
use Rattle.mb_model.specs.machine.OrderEffects.{state_after_order}
use Rattle.mb_model_memory.specs.Commits.{new_entries}
use Rattle.mb_model.specs.memories.Valid.{IsValidState}
use Rattle.mb_model.specs.memories.Memory.{AreSized, area_of_slot, HoldsRecord}
use Rattle.mb_model.specs.memories.StoredLog.{AreCounted, HasIndex}
use Rattle.mb_model.specs.memories.Flash.{HoldsPublic}
use Rattle.mb_model.specs.memories.Meaning.{HoldsRegion, Contents, HoldsContents, state_of_contents, StandsFor}
use Rattle.mb_model.specs.memories.Clean.{root_of, IsCleanFor}
use Rattle.mb_model_memory.specs.Commits.{root_for, committed, two_done, three_done, both_done, IsUnderWay}
use Rattle.mb_model_memory.specs.Commits.{at_rest}
use Rattle.mb_model_memory.specs.FlashInForce.{AgreeForArea}
use Rattle.mb_model_memory.specs.InForce.{AgreeInForce, AgreeBesides}

-- ---- the commit

-- what is committed means the state after the order
abbrev pub CommitsMeanTheirOrder : Type 0
CommitsMeanTheirOrder =
    (state : State) (order : Order) (draw : List ℕ) (area : ℕ) → IsValidState state → order_format.Allowed order
    → Passes (view_of state) order
    → state_of_contents (committed state order draw area) ≡ state_after_order state order draw

-- the unsigned entries of a commit are as many as its root says, and can be signed
abbrev pub CommitsAreCounted : Type 0
CommitsAreCounted =
    (state : State) (order : Order) (draw : List ℕ) (area : ℕ)
    → AreCounted (root_for state order draw area).pending (new_entries state order draw)

-- if the device key signs the entries of a commit, the root has used an index for that
abbrev pub CommitsHaveAnIndex : Type 0
CommitsHaveAnIndex =
    (state : State) (order : Order) (draw : List ℕ) (area : ℕ)
    → HasIndex (root_for state order draw area) (root_for state order draw area).pending

-- a memory that holds what is committed means the state after the order
abbrev pub CommittedMemoriesStand : Type 0
CommittedMemoriesStand =
    (flash bbram : List ℕ) (state : State) (order : Order) (draw : List ℕ) (area : ℕ) → AreSized flash bbram
    → IsValidState state → order_format.Allowed order → Passes (view_of state) order
    → HoldsContents flash bbram (committed state order draw area)
    → StandsFor flash bbram (Some (state_after_order state order draw))

-- ---- the work

-- contents mean the same, once what is to be done to region 2 is done
abbrev pub TwoDoneMeansTheSame : Type 0
TwoDoneMeansTheSame = (contents : Contents) → state_of_contents (two_done contents) ≡ state_of_contents contents

-- contents mean the same, once what is to be done to region 3 is done
abbrev pub ThreeDoneMeansTheSame : Type 0
ThreeDoneMeansTheSame = (contents : Contents) → state_of_contents (three_done contents) ≡ state_of_contents contents

-- contents mean the same, once what is to be done to both regions is done
abbrev pub BothDoneMeansTheSame : Type 0
BothDoneMeansTheSame = (contents : Contents) → state_of_contents (both_done contents) ≡ state_of_contents contents

-- contents mean the same, once each entry is signed, in either area of the flash, and nothing is pending
abbrev pub SettledMeansTheSame : Type 0
SettledMeansTheSame =
    (contents : Contents) (area : ℕ)
    → state_of_contents (at_rest (state_of_contents contents) area) ≡ state_of_contents contents

-- a memory means one state, however far the work has come
abbrev pub WorkUnderWayStands : Type 0
WorkUnderWayStands =
    (flash bbram : List ℕ) (contents now : Contents) → AreSized flash bbram
    → HasIndex contents.root contents.root.pending → IsUnderWay contents now → HoldsContents flash bbram now
    → StandsFor flash bbram (Some (state_of_contents contents))

-- work that is done again, wherever it was broken off, ends where it would have ended
abbrev pub WorkEndsTheSame : Type 0
WorkEndsTheSame = (contents now : Contents) → IsUnderWay contents now → both_done now ≡ both_done contents

-- ---- nothing is pending

-- what is stored of a state with nothing pending means that state
abbrev pub RestMeansItsState : Type 0
RestMeansItsState =
    (state : State) (area : ℕ) → state.layers ≡ layers_of (entries_of state.log)
    → state_of_contents (at_rest state area) ≡ state

-- a memory that holds what is stored of a state with nothing pending means that state
abbrev pub RestingMemoriesStand : Type 0
RestingMemoriesStand =
    (flash bbram : List ℕ) (state : State) (area : ℕ) → AreSized flash bbram
    → state.layers ≡ layers_of (entries_of state.log) → HoldsContents flash bbram (at_rest state area)
    → StandsFor flash bbram (Some state)

-- contents with nothing pending are just what is stored of the state that they mean
abbrev pub NothingPendingIsRest : Type 0
NothingPendingIsRest =
    (contents : Contents) → contents.root.pending ≡ None → AreCounted contents.root.pending contents.unsigned
    → contents ≡ at_rest (state_of_contents contents) contents.root.area

-- a memory that is clean for a state, and means it, holds just what is stored of it with nothing pending
abbrev pub CleanMemoriesAreAtRest : Type 0
CleanMemoriesAreAtRest =
    (flash bbram : List ℕ) (state : State) (clean : IsCleanFor bbram state) → IsBytes bbram
    → StandsFor flash bbram (Some state) → HoldsContents flash bbram (at_rest state clean.area)

-- ---- what counts

-- memories with the same bytes in the current areas mean the same live state
abbrev pub AgreeingMemoriesStandForOne : Type 0
AgreeingMemoriesStandForOne =
    (flash bbram other_flash other_bbram : List ℕ) (state : State) → AreSized other_flash other_bbram
    → AgreeInForce flash bbram other_flash other_bbram
    → StandsFor flash bbram (Some state) → StandsFor other_flash other_bbram (Some state)

-- agreement of the bytes in force goes both ways
abbrev pub AgreementGoesBothWays : Type 0
AgreementGoesBothWays =
    (flash bbram other_flash other_bbram : List ℕ) → AgreeInForce flash bbram other_flash other_bbram
    → AgreeInForce other_flash other_bbram flash bbram

-- the flash of a dead device counts for nothing
abbrev pub DeadFlashIsAny : Type 0
DeadFlashIsAny =
    (flash bbram other_flash : List ℕ) → AreSized other_flash bbram
    → StandsFor flash bbram None → StandsFor other_flash bbram None

-- ---- one piece after another

-- If the current area of slot 2 holds another region, and all else in force is as it was, the contents are the same but
-- for that region.
abbrev pub TwoIsReplaced : Type 0
TwoIsReplaced =
    (flash bbram other_bbram : List ℕ) (contents : Contents) (region : Region) → AgreeBesides 2 bbram other_bbram
    → HoldsRegion (area_of_slot other_bbram 2) region → HoldsContents flash bbram contents
    → HoldsContents flash other_bbram (record contents { two = region })

-- If the current area of slot 3 holds another region, and all else in force is as it was, the contents are the same but
-- for that region.
abbrev pub ThreeIsReplaced : Type 0
ThreeIsReplaced =
    (flash bbram other_bbram : List ℕ) (contents : Contents) (region : Region) → AgreeBesides 3 bbram other_bbram
    → HoldsRegion (area_of_slot other_bbram 3) region → HoldsContents flash bbram contents
    → HoldsContents flash other_bbram (record contents { three = region })

-- If the current area of slot 1 holds another root, for which the flash holds codes and entries, and all else in force
-- is as it was, the contents are the same but for root, codes and entries.
abbrev pub RootIsReplaced : Type 0
RootIsReplaced =
    (flash bbram other_bbram : List ℕ) (contents : Contents) (root : Root) (codes : Codes) (signed : List SignedEntry)
    (unsigned : List Entry) → AgreeBesides 1 bbram other_bbram
    → HoldsRecord root_format (area_of_slot other_bbram 1) root → HoldsPublic flash root codes signed unsigned
    → HoldsContents flash bbram contents
    → HoldsContents flash other_bbram
    (record contents { root = root; codes = codes; signed = signed; unsigned = unsigned })

-- a flash with the same bytes for the area that the root names holds the same contents
abbrev pub OtherFlashIsFree : Type 0
OtherFlashIsFree =
    (flash bbram other_flash : List ℕ) (contents : Contents)
    → AgreeForArea flash other_flash contents.root.area
    → HoldsContents flash bbram contents → HoldsContents other_flash bbram contents

-- ---- an order from rest to rest

-- If nothing is pending, the root that commits an order makes the memory hold what is committed. The flash already
-- holds the codes and entries for it.
abbrev pub OrderIsCommitted : Type 0
OrderIsCommitted =
    (flash bbram other_bbram : List ℕ) (state : State) (order : Order) (draw : List ℕ) (area other_area : ℕ)
    → AgreeBesides 1 bbram other_bbram
    → HoldsRecord root_format (area_of_slot other_bbram 1) (root_for state order draw other_area)
    → HoldsPublic flash (root_for state order draw other_area) (state_after_order state order draw).codes state.log
    (new_entries state order draw)
    → HoldsContents flash bbram (at_rest state area)
    → HoldsContents flash other_bbram (committed state order draw other_area)

-- Once what is to be done to both regions is done, the root of the state that is meant puts the memory at rest. The
-- flash already holds the codes and the signed entries for it.
abbrev pub WorkIsFinished : Type 0
WorkIsFinished =
    (flash bbram other_bbram : List ℕ) (contents : Contents) (area : ℕ) → AgreeBesides 1 bbram other_bbram
    → HoldsRecord root_format (area_of_slot other_bbram 1) (root_of (state_of_contents contents) area)
    → HoldsPublic flash (root_of (state_of_contents contents) area) contents.codes (state_of_contents contents).log []
    → HoldsContents flash bbram (both_done contents)
    → HoldsContents flash other_bbram (at_rest (state_of_contents contents) area)
