-- The contents of a memory after a root record is committed. Is an order wholly obeyed or not at all, and its work
-- wholly finished or still pending?
use Rattle.std.specs.Prelude.{◌≡◌, ℕ, ◌-◌, ◌⊎◌, List, [], None}
use Rattle.mb_model.specs.declared.entry.Entry.{Entry}
use Rattle.mb_model.specs.declared.entry.SignedEntry.{SignedEntry}
use Rattle.mb_model.specs.declared.state.Codes.{Codes}
use Rattle.mb_model.specs.declared.stored.Root.{Root}
use Rattle.mb_model.specs.records.RootFormat.{root_format}
use Rattle.mb_model.specs.outside.Board.{Memory}
use Rattle.mb_model.specs.memories.Memory.{HoldsRecord}
use Rattle.mb_model.specs.memories.Flash.{HoldsPublic}
use Rattle.mb_model.specs.memories.Meaning.{RootIn, Contents, state_of_contents}
use Rattle.mb_model.specs.memories.Clean.{root_of}
use Rattle.mb_model_memory.specs.Commits.{both_done, at_rest}
use Rattle.mb_model.specs.memories.StoredLog.{HasIndex}
use Rattle.mb_model_memory.specs.Holding.{Holds, Means, KeepsContents, KeepsMeaning}

-- an area holds some root record
pub record HoldsSomeRoot (area : List ℕ) : Type 0 where
  pub root : Root
  pub holds : HoldsRecord root_format area root

-- there is a current root record
pub record HasSomeRoot (memory : Memory) : Type 0 where
  pub root : Root
  pub holds : RootIn memory.bbram root

-- the current root record is this one, and there is no other
pub record IsOnlyRoot (bbram : List ℕ) (root : Root) : Type 0 where
  pub holds : RootIn bbram root
  pub only : (any : Root) → RootIn bbram any → any ≡ root

-- Whatever the memory held, it holds that with this root record and the codes and entries that the flash holds for it.
pub record CommitsRoot (new_root : Root) (before after : Memory) : Type 0 where
  pub committed : (contents : Contents) (codes : Codes) (signed : List SignedEntry) (unsigned : List Entry)
      → Holds before contents → HoldsPublic before.flash new_root codes signed unsigned
      → Holds after
      (record contents { root = new_root; codes = codes; signed = signed; unsigned = unsigned })

-- Whatever contents the memory held, it means what they mean with this root record, and with the codes and entries that
-- the flash holds for it.
pub record MeansByRoot (new_root : Root) (before after : Memory) : Type 0 where
  pub means : (contents : Contents) (codes : Codes) (signed : List SignedEntry) (unsigned : List Entry)
      → Holds before contents → HoldsPublic before.flash new_root codes signed unsigned
      → HasIndex new_root new_root.pending
      → Means
      after
      (state_of_contents (record contents { root = new_root; codes = codes; signed = signed; unsigned = unsigned }))

-- the root record of the same device with nothing pending, and with its header in the other header area
abbrev pub settled_root : Root → Root
settled_root root = record root { area = 1 - root.area; pending = None }

-- The memory holds these contents, the fates of both regions have been applied, and for the inactive header area the
-- flash holds the same codes, and the log with every entry signed.
pub record IsReadyToFinish (memory : Memory) (contents : Contents) : Type 0 where
  pub holds : Holds memory contents
  pub applied : both_done contents ≡ contents
  pub signed : HoldsPublic
      memory.flash
      (root_of (state_of_contents contents) (1 - contents.root.area))
      contents.codes
      (state_of_contents contents).log
      []

-- If the contents of the memory were ready to be finished, it still means the state that they meant.
pub record MeansAsReady (before after : Memory) : Type 0 where
  pub means : (contents : Contents) → IsReadyToFinish before contents → Means before (state_of_contents contents)
      → Means after (state_of_contents contents)

-- what the memory holds once these contents are finished
abbrev pub finished : Contents → Contents
finished contents = at_rest (state_of_contents contents) (1 - contents.root.area)

-- contents that were ready to be finished are finished
pub record Finishes (before after : Memory) : Type 0 where
  pub finishes : (contents : Contents) → IsReadyToFinish before contents → Holds after (finished contents)

-- contents that were ready to be finished are so still, or are finished
abbrev pub KeepsOrFinishes : Memory → Memory → Type 0
KeepsOrFinishes before after = KeepsContents before after ⊎ Finishes before after

-- the memory still means every state that it meant, or means what this root record makes of it
abbrev pub KeepsOrMeansByRoot : Root → Memory → Memory → Type 0
KeepsOrMeansByRoot new_root before after = KeepsMeaning before after ⊎ MeansByRoot new_root before after
