-- What the readers of a line find. Is what is found exactly what stands there?
use Rattle.std.specs.Prelude.{◌≡◌, ℕ, List, Option}
use Rattle.mb_appvm.specs.declared.keyword.Keyword.{Keyword}
use Rattle.mb_appvm.specs.declared.lines.Said.{Said}
use Rattle.mb_appvm.specs.Assembly.{keyword_of, operand_of, IsSayable}

-- what a line with this keyword, and this operand or none, says
pub record SaysWords (keyword : Keyword) (operand : Option (List ℕ)) (meaning : Said) : Type 0 where
  pub sayable : IsSayable meaning
  pub begins : keyword_of meaning ≡ keyword
  pub ends : operand_of meaning ≡ operand
