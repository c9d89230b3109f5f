-- How the public record of a device is spelled: its codes and its log. What of a device may anyone read?
use Rattle.std.specs.Prelude.{ℕ, [], ◌∷◌, List, Option}
use Rattle.std.specs.Int.{w16, w32}
use Rattle.mb_format.specs.Format.{Format}
use Rattle.mb_format.specs.Combinators.{between, mark, optional, pair, as_record, then_value, sized, counted}
use Rattle.mb_model.specs.declared.limits.TheConstants.{CODE_LIMIT, ENTRY_LIMIT}
use Rattle.mb_model.specs.declared.entry.PublicEntry.{PublicEntry}
use Rattle.mb_model.specs.declared.state.Codes.{Codes}
use Rattle.mb_model.specs.declared.stored.Public.{Public}
use Rattle.mb_model.specs.records.EntryFormat.{entry_format, signature_format}

-- the code of a layer after its length, if it has any
unfoldable pub code_format : Format (Option (List ℕ))
code_format = optional (sized (between w32 0 CODE_LIMIT))

-- the code of each layer, from the first on
unfoldable pub codes_format : Format Codes
codes_format = as_record (pair code_format (pair code_format code_format))
    (λ (one, (two, three)). record { one = one; two = two; three = three })
    (λ codes. (codes.one, (codes.two, codes.three)))

-- an entry, and its signature if it is signed
unfoldable pub public_entry_format : Format PublicEntry
public_entry_format = as_record (pair entry_format (optional signature_format))
    (λ (entry, signature). record { entry = entry; signature = signature })
    (λ stored. (stored.entry, stored.signature))

-- the public record: its version, the codes, 1 to 128 entries
unfoldable pub public_format : Format Public
public_format = then_value (mark (1 ∷ []))
    (as_record (pair codes_format (counted (between w16 1 ENTRY_LIMIT) public_entry_format))
    (λ (codes, entries). record { codes = codes; entries = entries })
    (λ stored. (stored.codes, stored.entries)))
