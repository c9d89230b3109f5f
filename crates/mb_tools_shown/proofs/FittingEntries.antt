-- What the bytes of a chain say of its entries: numbers are in their ranges, and hashes and serials are bytes.
use Rattle.std.proofs.Common.{◌≡◌, ℕ, suc, ◌<◌, ◌^◌, List, [], ◌∷◌, ◌++◌, length, Option, None, Some, refl, sym, subst, arith}
use Rattle.std.specs.Prelude.{flat_map}
use Rattle.std.specs.Int.{w8, w16, w32}
use Rattle.std.specs.List.{AllByRecursion}
use Rattle.mb_format.specs.Format.{Format, IsBytes, Spells}
use Rattle.mb_format.specs.Combinators.{raw, number, between, table, listed, mark, nothing, optional, both, pair, as_record, led, times, counted}
use Rattle.mb_format.proofs.Compositions.{items_all, times_spelling}
use Rattle.mb_format.proofs.Exact.{IsBytes-spelled}
use Rattle.mb_model.specs.declared.layer.CodeName.{CodeName}
use Rattle.mb_model.specs.declared.layer.Layer.{Layer}
use Rattle.mb_model.specs.declared.layer.Layers.{Layers}
use Rattle.mb_model.specs.declared.entry.Chain.{Chain}
use Rattle.mb_model.specs.declared.entry.Entry.{Entry}
use Rattle.mb_model.specs.declared.entry.Entry.TheVariants.{Birth, Change, NewKey, Succession}
use Rattle.mb_model.specs.declared.entry.SignedEntry.{SignedEntry}
use Rattle.mb_model.specs.owners.Log.{entries_of}
use Rattle.mb_model.specs.records.KeyFormat.{public_key_format}
use Rattle.mb_model.specs.records.LayerFormat.{trusts_of, code_name_format, Has, has_nothing, has_owner, has_code, has_reliable_code, has_byte, has_rows, has_of, trust_by, owner_by, code_by, reliable_by, layer_by, layer_format, layers_format}
use Rattle.mb_model.specs.records.EntryFormat.{change_byte, change_rows, pair_format, entry_byte, entry_rows, entry_tag, birth_format, change_format, new_key_format, succession_format, entry_by, entry_format, signature_format, signed_entry_format}
use Rattle.mb_model.specs.records.ChainFormat.{chain_word, statement_format, chain_format}

-- ---- formats

-- the value is allowed, and its spelling is bytes
pub record Fits {A : Type 0} (f : Format A) (a : A) : Type 0 where
  pub allowed : f.Allowed a
  pub bytes : IsBytes (f.spelling a)

bytes_front : (front back : List ℕ) → IsBytes (front ++ back) → IsBytes front
bytes_front front back are = IsBytes-spelled (front ++ back) front back are refl

bytes_back : (front back : List ℕ) → IsBytes (front ++ back) → IsBytes back
bytes_back [] back are = are
bytes_back (byte ∷ front) back are = bytes_back front back (λ i. are (suc i))

both_fit : {A B : Type 0} (f : Format A) (g : A → Format B) (a : A) (b : B) → Fits (both f g) (a, b) → Fits f a × Fits (g a) b
both_fit f g a b fits = (
  record { allowed = fits.allowed.0; bytes = bytes_front (f.spelling a) ((g a).spelling b) fits.bytes },
  record { allowed = fits.allowed.1; bytes = bytes_back (f.spelling a) ((g a).spelling b) fits.bytes },
)

pair_fits : {A B : Type 0} (f : Format A) (g : Format B) (a : A) (b : B) → Fits (pair f g) (a, b) → Fits f a × Fits g b
pair_fits f g a b fits = both_fit f (λ x. g) a b (record { allowed = fits.allowed; bytes = fits.bytes })

parts_fit : {A B : Type 0} (f : Format A) (into : A → B) (parts : B → A) (b : B) → Fits (as_record f into parts) b → Fits f (parts b)
parts_fit f into parts b fits = record { allowed = fits.allowed; bytes = fits.bytes }

led_fits : {K B : Type 0} (f : Format K) (key : B → K) (g : K → Format B) (b : B) → Fits (led f key g) b → Fits (g (key b)) b
led_fits f key g b fits = (both_fit f g (key b) b (record { allowed = fits.allowed; bytes = fits.bytes })).1

-- ---- layers

-- the hash of a code is 32 bytes, and its version is a number of 32 bits
abbrev pub CodeFits : Option CodeName → Type 0
CodeFits None = Unit {0}
CodeFits (Some code) = IsBytes code.hash × (length code.hash ≡ 32) × (code.version < 2 ^ 64)

pub record LayersFit (layers : Layers) : Type 0 where
  pub one : CodeFits layers.one.code
  pub two : CodeFits layers.two.code
  pub three : CodeFits layers.three.code

some_code : (code : CodeName) → Fits code_name_format code → CodeFits (Some code)
unfolding code_name_format
some_code code fits =
    let parts = pair_fits (raw 32) (number w32) code.hash code.version (record { allowed = fits.allowed; bytes = fits.bytes }) in
    (parts.0.bytes, parts.0.allowed, omega (arith, parts.1.allowed))

code_fits : (has : Has) (code : Option CodeName) → Fits (code_by has) code → CodeFits code
code_fits has_nothing code fits = subst CodeFits (sym fits.allowed) tt
code_fits has_owner code fits = subst CodeFits (sym fits.allowed) tt
code_fits has_code None fits = tt
code_fits has_code (Some code) fits = some_code code (record { allowed = fits.allowed; bytes = fits.bytes })
code_fits has_reliable_code None fits = tt
code_fits has_reliable_code (Some code) fits = some_code code (record { allowed = fits.allowed; bytes = fits.bytes })

layer_fits : (version : ℕ) (layer : Layer) → Fits (layer_format version) layer → CodeFits layer.code
unfolding layer_format
layer_fits version layer fits =
    let has = has_of layer in
    let own = led_fits (table w8 has_rows has_byte) has_of (layer_by version) layer (record { allowed = fits.allowed; bytes = fits.bytes }) in
    let all = pair_fits (trusts_of version (trust_by has)) (pair (owner_by has) (pair (code_by has) (reliable_by has))) layer.trust (layer.owner, (layer.code, layer.reliable))
    (record { allowed = own.allowed; bytes = own.bytes }) in
    let owned = pair_fits (owner_by has) (pair (code_by has) (reliable_by has)) layer.owner (layer.code, layer.reliable) all.1 in
    code_fits has layer.code (pair_fits (code_by has) (reliable_by has) layer.code layer.reliable owned.1).0

layers_fit : (version : ℕ) (layers : Layers) → Fits (layers_format version) layers → LayersFit layers
unfolding layers_format
layers_fit version layers fits =
    let own = layer_format version in
    let all = pair_fits own (pair own own) layers.one (layers.two, layers.three) (record { allowed = fits.allowed; bytes = fits.bytes }) in
    let upper = pair_fits own own layers.two layers.three all.1 in
    record { one = layer_fits version layers.one all.0; two = layer_fits version layers.two upper.0; three = layer_fits version layers.three upper.1 }

-- ---- entries

-- what is told of an entry is in its range
abbrev pub EntryFits : Entry → Type 0
EntryFits (Birth version serial key layers) = IsBytes serial × LayersFit layers
EntryFits (Change version position number kind layer cosigned layers kept next) = (position < 2 ^ 64) × (number < 2 ^ 64) × (layer < 2 ^ 64) × LayersFit layers
EntryFits (NewKey position number key_number layer kind key) = (position < 2 ^ 64) × (key_number < 2 ^ 64) × (layer < 2 ^ 64)
EntryFits (Succession position key) = position < 2 ^ 64

entry_fits : (entry : Entry) → Fits entry_format entry → EntryFits entry
unfolding entry_format birth_format change_format new_key_format succession_format
entry_fits (Birth version serial key layers) fits =
    let own = led_fits (listed w8 entry_rows entry_byte) entry_tag entry_by (Birth version serial key layers) (record { allowed = fits.allowed; bytes = fits.bytes }) in
    let after_serial = pair public_key_format (layers_format version) in
    let all = pair_fits (nothing version) (pair (raw 16) after_serial) version (serial, (key, layers)) (record { allowed = own.allowed; bytes = own.bytes }) in
    let named = pair_fits (raw 16) after_serial serial (key, layers) all.1 in
    (named.0.bytes, layers_fit version layers (pair_fits public_key_format (layers_format version) key layers named.1).1)
entry_fits (Change version position count kind layer cosigned layers kept next) fits =
    let own = led_fits (listed w8 entry_rows entry_byte) entry_tag entry_by (Change version position count kind layer cosigned layers kept next) (record { allowed = fits.allowed; bytes = fits.bytes }) in
    let last = pair (layers_format version) (optional public_key_format) in
    let pairs = pair pair_format (pair pair_format last) in
    let changed = pair (table w8 change_rows change_byte) (pair (between w8 1 3) pairs) in
    let all = pair_fits (nothing version) (pair (number w32) (pair (number w32) changed)) version (position, (count, (kind, (layer, (cosigned, (kept, (layers, next))))))) (record { allowed = own.allowed; bytes = own.bytes }) in
    let placed = pair_fits (number w32) (pair (number w32) changed) position (count, (kind, (layer, (cosigned, (kept, (layers, next)))))) all.1 in
    let counted = pair_fits (number w32) changed count (kind, (layer, (cosigned, (kept, (layers, next))))) placed.1 in
    let kinds = pair_fits (table w8 change_rows change_byte) (pair (between w8 1 3) pairs) kind (layer, (cosigned, (kept, (layers, next)))) counted.1 in
    let numbered = pair_fits (between w8 1 3) pairs layer (cosigned, (kept, (layers, next))) kinds.1 in
    let by = pair_fits pair_format (pair pair_format last) cosigned (kept, (layers, next)) numbered.1 in
    let keeps = pair_fits pair_format last kept (layers, next) by.1 in (
      omega (arith, placed.0.allowed),
      omega (arith, counted.0.allowed),
      omega (arith, numbered.0.allowed),
      layers_fit version layers (pair_fits (layers_format version) (optional public_key_format) layers next keeps.1).0,
    )
entry_fits (NewKey position count key_number layer kind key) fits = (omega (arith, fits.allowed.1.0), omega (arith, fits.allowed.1.1.1.0), omega (arith, fits.allowed.1.1.1.1.0))
entry_fits (Succession position key) fits = omega (arith, fits.allowed.1.0)

-- ---- the entries of a chain

abbrev pub EachFits : List Entry → Type 0
EachFits [] = Unit {0}
EachFits (entry ∷ entries) = EntryFits entry × EachFits entries

each_fits : (signed : List SignedEntry) → AllByRecursion signed_entry_format.Allowed signed → IsBytes (flat_map signed_entry_format.spelling signed) → EachFits (entries_of signed)
unfolding signed_entry_format
each_fits [] all are = tt
each_fits (one ∷ signed) all are =
    let own = pair_fits entry_format signature_format one.entry one.signature (record { allowed = all.0; bytes = bytes_front (signed_entry_format.spelling one) (flat_map signed_entry_format.spelling signed) are }) in
    (entry_fits one.entry own.0, each_fits signed all.1 (bytes_back (signed_entry_format.spelling one) (flat_map signed_entry_format.spelling signed) are))

pub chain_fits : (bytes : List ℕ) (chain : Chain) → IsBytes bytes → Spells chain_format bytes chain → EachFits (entries_of chain.entries)
unfolding chain_format
chain_fits bytes chain are spelled =
    let items = counted (between w16 1 128) signed_entry_format in
    let whole = subst IsBytes spelled.whole are in
    let after_word = pair_fits (mark chain_word) (pair items (optional statement_format)) tt (chain.entries, chain.statement) (record { allowed = spelled.allowed; bytes = whole }) in
    let own = pair_fits items (optional statement_format) chain.entries chain.statement after_word.1 in
    let each = led_fits (between w16 1 128) length (λ n. times n signed_entry_format) chain.entries own.0 in
    let all = items_all signed_entry_format (length chain.entries) chain.entries each.allowed in
    each_fits chain.entries all.1 (subst IsBytes (times_spelling signed_entry_format (length chain.entries) chain.entries refl) each.bytes)
