-- Entries, statements and chains are read exactly: what is read at an offset is what is spelled there, and reading
-- fails where the format says. Each format has a law `NAME_exact`, from the laws of its fields: `search` composes them
-- by the ruleset `exactly`. A table, a choice by a tag, and a value that is one case of a type need a lemma of their
-- own beside it.
use Rattle.std.proofs.Common.{◌≡◌, ℕ, ◌==◌, Bool, true, false, List, Option, Some, refl, arith, rules}
use Rattle.std.specs.Int.{w8}
use Rattle.mb_format.specs.Reading.{IsExact}
use Rattle.mb_format.specs.Combinators.{row_of, either}
use Rattle.mb_format.proofs.Rules.{exactly}
use Rattle.mb_format.proofs.Fields.{IsTable, IsList}
use Rattle.mb_model.specs.declared.key.PublicKey.{PublicKey}
use Rattle.mb_model.specs.declared.layer.Layers.{Layers}
use Rattle.mb_model.specs.declared.layer.Pair.{Pair}
use Rattle.mb_model.specs.declared.order.ChangeKind.{ChangeKind}
use Rattle.mb_model.specs.declared.order.ChangeKind.TheVariants as changes
use Rattle.mb_model.specs.declared.order.KeyKind.{KeyKind}
use Rattle.mb_model.specs.declared.order.KeyKind.TheVariants as kinds
use Rattle.mb_model.specs.declared.entry.Entry.{Entry}
use Rattle.mb_model.specs.declared.entry.Entry.TheVariants.{Birth, Change, NewKey, Succession}
use Rattle.mb_model.specs.records.EntryFormat.{change_byte, change_rows, key_kind_byte, key_kind_rows, key_kind_format}
use Rattle.mb_model.specs.records.EntryFormat.{pair_byte, pair_rows, pair_format}
use Rattle.mb_model.specs.records.EntryFormat.{EntryTag, birth_tag, change_tag, new_key_tag, succession_tag}
use Rattle.mb_model.specs.records.EntryFormat.{birth_in, birth_format, change_in, change_format}
use Rattle.mb_model.specs.records.EntryFormat.{new_key_in, new_key_format, succession_in, succession_format}
use Rattle.mb_model.specs.records.EntryFormat.{entry_byte, entry_rows, entry_tag, entry_by, entry_format}
use Rattle.mb_model.specs.records.EntryFormat.{signed_entry_format}
use Rattle.mb_model.specs.declared.entry.Said.{Said}
use Rattle.mb_model.specs.declared.entry.Said.TheVariants.{Message, Answer}
use Rattle.mb_model.specs.records.ChainFormat.{said_byte, asked_in, answered_in, answered_format, asked_format, said_format, statement_format, chain_format}
use Rattle.mb_model.proofs.KeyFormatLaws.{public_key_exact, layers_exact}

-- ---- single fields

-- Each value has a row in its table, and the rows are those of the format.
pub change_table : IsTable w8 change_rows change_byte
change_table = record {
  rows_are = search rules;
  back = elim [
    | changes.Establish ↦ refl
    | changes.Surrender ↦ refl
    | changes.Load ↦ refl
    | changes.Emergency ↦ refl
  ];
}

pub key_kind_table : IsTable w8 key_kind_rows key_kind_byte
key_kind_table = record { rows_are = search rules; back = elim [ kinds.Epoch ↦ refl | kinds.Configuration ↦ refl ] }

pub key_kind_exact : IsExact key_kind_format
unfolding key_kind_format
key_kind_exact = search (exactly, key_kind_table) depth 20

abbrev pair_of : Bool → Bool → Pair
pair_of two three = record { two = two; three = three }

pair_back : (two three : Bool) → row_of pair_rows (pair_byte (pair_of two three)) ≡ Some (pair_of two three)
pair_back false false = refl
pair_back true false = refl
pair_back false true = refl
pair_back true true = refl

pub pair_table : IsTable w8 pair_rows pair_byte
pair_table = record { rows_are = search rules; back = λ some. pair_back some.two some.three }

pub pair_format_exact : IsExact pair_format
unfolding pair_format
pair_format_exact = search (exactly, pair_table) depth 20

-- The tags of entries are a list and no table: a tag of a version that is never spelled has no row.
pub entry_list : IsList w8 entry_rows entry_byte
entry_list = record { rows_are = search rules }

-- ---- entries

-- What an entry of each kind is made of, in the order in which its format reads it. What is taken out of an entry
-- (`birth_in`) makes the entry again (`birth_from`): so bytes that are read spell what was made of them.

abbrev BirthParts : Type 0
BirthParts = ℕ × (List ℕ × (PublicKey × Layers))

abbrev birth_from : BirthParts → Entry
birth_from (version, (serial, (key, layers))) = Birth version serial key layers

birth_only : (entry : Entry) (parts : BirthParts) → birth_in entry ≡ Some parts → birth_from parts ≡ entry
birth_only entry parts taken = grind arith

pub birth_exact : (version : ℕ) → IsExact (birth_format version)
unfolding birth_format
birth_exact version = search (exactly, public_key_exact, layers_exact, birth_only) depth 20

abbrev ChangeParts : Type 0
ChangeParts = ℕ × (ℕ × (ℕ × (ChangeKind × (ℕ × (Pair × (Pair × (Layers × Option PublicKey)))))))

abbrev change_from : ChangeParts → Entry
change_from (version, (position, (number, (kind, (layer, (cosigned, (kept, (layers, next)))))))) =
    Change version position number kind layer cosigned layers kept next

change_only : (entry : Entry) (parts : ChangeParts) → change_in entry ≡ Some parts → change_from parts ≡ entry
change_only entry parts taken = grind arith

pub change_exact : (version : ℕ) → IsExact (change_format version)
unfolding change_format
change_exact version =
    search (exactly, change_table, pair_format_exact, public_key_exact, layers_exact, change_only) depth 20

abbrev NewKeyParts : Type 0
NewKeyParts = ℕ × (ℕ × (ℕ × (ℕ × (KeyKind × PublicKey))))

abbrev new_key_from : NewKeyParts → Entry
new_key_from (position, (number, (key_number, (layer, (kind, key))))) =
    NewKey position number key_number layer kind key

new_key_only : (entry : Entry) (parts : NewKeyParts) → new_key_in entry ≡ Some parts → new_key_from parts ≡ entry
new_key_only entry parts taken = grind arith

pub new_key_exact : IsExact new_key_format
unfolding new_key_format
new_key_exact = search (exactly, key_kind_exact, public_key_exact, new_key_only) depth 20

abbrev succession_from : ℕ × PublicKey → Entry
succession_from (position, key) = Succession position key

succession_only : (entry : Entry) (parts : ℕ × PublicKey) → succession_in entry ≡ Some parts
    → succession_from parts ≡ entry
succession_only entry parts taken = grind arith

pub succession_exact : IsExact succession_format
unfolding succession_format
succession_exact = search (exactly, public_key_exact, succession_only) depth 20

-- The tag says which of them follows it, and an entry that follows a tag has that tag: so an entry is spelled after no
-- other tag than its own.

pub entry_by-exact : (tag : EntryTag) → IsExact (entry_by tag)
entry_by-exact (birth_tag version) = birth_exact version
entry_by-exact (change_tag version) = change_exact version
entry_by-exact new_key_tag = new_key_exact
entry_by-exact succession_tag = succession_exact

pub entry_keyed : (tag : EntryTag) (entry : Entry) → (entry_by tag).Allowed entry → entry_tag entry ≡ tag
unfolding birth_format change_format new_key_format succession_format
entry_keyed (birth_tag version) entry allowed = grind arith
entry_keyed (change_tag version) entry allowed = grind arith
entry_keyed new_key_tag entry allowed = grind arith
entry_keyed succession_tag entry allowed = grind arith

pub entry_exact : IsExact entry_format
unfolding entry_format
entry_exact = search (exactly, entry_list, entry_by-exact, entry_keyed) depth 20

pub signed_entry_exact : IsExact signed_entry_format
unfolding signed_entry_format
signed_entry_exact = search (exactly, entry_exact) depth 20

-- ---- chains

abbrev answered_from : List ℕ × List ℕ → Said
answered_from (input, answer) = Answer input answer

answered_only : (said : Said) (parts : List ℕ × List ℕ) → answered_in said ≡ Some parts → answered_from parts ≡ said
answered_only (Message message) parts taken = grind arith
answered_only (Answer input answer) parts taken = grind arith

asked_only : (said : Said) (message : List ℕ) → asked_in said ≡ Some message → Message message ≡ said
asked_only (Message message) other taken = grind arith
asked_only (Answer input answer) other taken = grind arith

pub answered_exact : IsExact answered_format
unfolding answered_format
answered_exact = search (exactly, answered_only) depth 20

pub asked_exact : (size : ℕ) → IsExact (asked_format size)
unfolding asked_format
asked_exact size = search (exactly, asked_only) depth 20

following_exact : (size : ℕ) (b : Bool) → IsExact (either b answered_format (asked_format size))
following_exact size true = answered_exact
following_exact size false = asked_exact size

said_following : (size : ℕ) → IsExact (either (size == 129) answered_format (asked_format size))
said_following size = following_exact size (size == 129)

keyed_by : (size : ℕ) (b : Bool) → (size == 129) ≡ b → (said : Said) → (either b answered_format (asked_format size)).Allowed said → said_byte said ≡ size
unfolding answered_format asked_format
keyed_by size true is (Message message) allowed = absurd allowed
keyed_by size true is (Answer input answer) allowed = grind (arith, is)
keyed_by size false is (Message message) allowed = allowed
keyed_by size false is (Answer input answer) allowed = absurd allowed

said_keyed : (size : ℕ) (said : Said) → (either (size == 129) answered_format (asked_format size)).Allowed said → said_byte said ≡ size
said_keyed size said allowed = keyed_by size (size == 129) refl said allowed

pub said_exact : IsExact said_format
unfolding said_format
said_exact = search (exactly, said_following, said_keyed) depth 20

pub statement_exact : IsExact statement_format
unfolding statement_format
statement_exact = search (exactly, said_exact) depth 20

pub chain_exact : IsExact chain_format
unfolding chain_format
chain_exact = search (exactly, signed_entry_exact, statement_exact) depth 20
