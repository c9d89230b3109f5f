-- The numbers that tell the statement of a call from that of a message. Is one of them another than is believed?
use Rattle.std.specs.Prelude.{◌≡◌}
use Rattle.mb_model.specs.declared.limits.TheConstants.{CALL_MARK}
use Rattle.mb_model.specs.declared.separators.TheConstants.{CALL_TEXT}

-- the byte in place of a message's length, and the domain separator of what is signed
pub record CallNumbersAre : Type 0 where
  pub call_mark : CALL_MARK ≡ 129
  pub call_text : CALL_TEXT ≡ 0x06
