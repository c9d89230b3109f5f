-- What the command `showmaker` does. Does a maker see how many endorsements its key has left?
use Rattle.std.specs.Prelude.{ℕ, ◌-◌, ◌^◌, List, [], ◌∷◌, ◌++◌, codes}
use Rattle.mb_model.specs.chains.Lines.{text_of}
use Rattle.mb_model.specs.chains.Listing.{number_line}
use Rattle.mb_model_commands.specs.Commands.{Command, read, print}
use Rattle.mb_hss.specs.declared.maker.Maker.{Maker}
use Rattle.mb_hss.specs.HssKeyFormat.{hss_key_format}
use Rattle.mb_hss.specs.MakerKeys.{maker_key}
use Rattle.mb_tools_hss.specs.HssKeygen.{maker_text}
use Rattle.mb_tools_hss.specs.MakerInputs.{maker_input}

-- the name of the file
pub record ShowMakerNames : Type 0 where
  pub key : List ℕ

-- the text of a maker with this public key: the hash of the public key, as `hsskeygen` prints it, the number of levels,
-- the next number, and how many are left
abbrev pub maker_lines : List ℕ → Maker → List ℕ
maker_lines public maker =
    maker_text public
    ++ text_of (number_line (codes "levels") maker.levels
    ∷ number_line (codes "next") maker.next
    ∷ number_line (codes "left") (32 ^ maker.levels - maker.next) ∷ [])

-- the maker's key is read, and its text is printed; the key is left as it is
unfoldable pub showmaker : ShowMakerNames → Command
showmaker names =
    read (maker_input names.key) (λ maker. print (maker_lines (hss_key_format.spelling (maker_key maker)) maker))
