-- What was read and not copied. Which value does it mean?
use Rattle.std.specs.Prelude.{ℕ, List, Option}
use Rattle.std.specs.Option.{option_copied}
use Rattle.mb_model.specs.declared.stored.Header.{Header}
use Rattle.mb_segments.specs.declared.header.StoredTexts.{StoredTexts}
use Rattle.mb_segments.specs.declared.header.StoredHeader.{StoredHeader}
use Rattle.mb_segments.specs.declared.log.LogSector.{LogSector}

-- the first and the second unsigned entry, as bytes
abbrev pub texts_of : StoredTexts → Option (List ℕ) × Option (List ℕ)
texts_of texts = (option_copied texts.first, option_copied texts.second)

-- the header
abbrev pub header_of : StoredHeader → Header
header_of stored = record {
  one = stored.one;
  two = stored.two;
  three = stored.three;
  signed = stored.signed;
  first = option_copied stored.first;
  second = option_copied stored.second;
}

-- the bytes of an entry, and its signature
abbrev pub log_of : LogSector → List ℕ × List ℕ
log_of stored = (stored.text.now, stored.signature)
