-- The number of the code that definitions cite. Is the limit of words another than the one that is believed?
use Rattle.std.specs.Prelude.{◌≡◌}
use Rattle.mb_console.specs.declared.words.TheConstants.{WORD_LIMIT}

-- the most words after a command's name
pub record WordNumbersAre : Type 0 where
  pub word_limit : WORD_LIMIT ≡ 8
