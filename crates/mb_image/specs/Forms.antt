-- Forms of the flash that can have a reader. Are as many entries unsigned as the root says?
use Rattle.std.specs.Prelude.{ℕ, List}
use Rattle.mb_model.specs.declared.entry.Entry.{Entry}
use Rattle.mb_model.specs.declared.entry.SignedEntry.{SignedEntry}
use Rattle.mb_model.specs.declared.state.Codes.{Codes}
use Rattle.mb_model.specs.declared.stored.Root.{Root}
use Rattle.mb_model.specs.memories.StoredLog.{AreCounted}
use Rattle.mb_model.specs.memories.Meaning.{FlashForm}

-- in this form a flash holds as many unsigned entries as the root says
abbrev pub CountsUnsigned : FlashForm → Type 0
CountsUnsigned Form =
    (flash : List ℕ) (root : Root) (codes : Codes) (signed : List SignedEntry) (unsigned : List Entry)
    → Form flash root codes signed unsigned → AreCounted root.pending unsigned
