-- The number of the code that definitions cite. Does what endorses a root key begin with another byte than is believed?
use Rattle.std.specs.Prelude.{◌≡◌}
use Rattle.mb_tools_hss.specs.declared.endorse.TheConstants.{ENDORSED_TEXT}

-- domain separator of what a maker signs to endorse a root key
pub record EndorsementNumbersAre : Type 0 where
  pub endorsed_text : ENDORSED_TEXT ≡ 0x05
