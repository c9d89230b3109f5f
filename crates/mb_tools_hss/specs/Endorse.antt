-- What the command `endorse` does. Is each number of a maker used for one endorsement, and is the root key what was
-- endorsed?
use Rattle.std.specs.Prelude.{◌≡◌, ℕ, ◌+◌, ◌^◌, List, ◌∷◌, codes}
use Rattle.mb_model.specs.declared.key.PublicKey.{PublicKey}
use Rattle.mb_model.specs.signatures.Key.{key_bytes}
use Rattle.mb_model_commands.specs.declared.role.Role.TheVariants as role
use Rattle.mb_model_commands.specs.Sign.{index_text}
use Rattle.mb_model_commands.specs.Commands.{Command, read, either_command, write, print, refuse}
use Rattle.mb_model_commands.specs.Inputs.{root_input}
use Rattle.mb_hss.specs.declared.maker.Maker.{Maker}
use Rattle.mb_hss.specs.MakerFormat.{maker_format}
use Rattle.mb_hss.specs.MakerSignatures.{maker_signature}
use Rattle.mb_tools_hss.specs.declared.endorse.TheConstants.{ENDORSED_TEXT}
use Rattle.mb_tools_hss.specs.MakerInputs.{maker_input}

-- the names of the files
pub record EndorseNames : Type 0 where
  pub key : List ℕ
  pub root : List ℕ
  pub out : List ℕ

-- what a maker signs to endorse a root key
abbrev pub endorsed_text : PublicKey → List ℕ
endorsed_text root = ENDORSED_TEXT ∷ key_bytes root

-- the maker with one more of its numbers used
abbrev pub number_used : Maker → Maker
number_used maker = record maker { next = maker.next + 1 }

-- The maker's file is written with its next number used, then that number's signature, and the number is printed. The
-- line is `index N` of `sign`, though the number is an index at the last level alone.
unfoldable pub use_number : EndorseNames → Maker → PublicKey → Command
use_number names maker root =
    write (record { role = role.Key; name = names.key; bytes = maker_format.spelling (number_used maker) })
    (write (record {
      role = role.Out;
      name = names.out;
      bytes = maker_signature maker maker.next (endorsed_text root);
    })
    (print (index_text maker.next)))

-- The maker endorses the root key, unless all its 32^levels numbers are used. What was signed is not verified: that it
-- verifies is a law (`MakersSignaturesVerify`), and that `endorsed` accepts it another (`endorsements_are_accepted`).
unfoldable pub endorse_root : EndorseNames → Maker → PublicKey → Command
endorse_root names maker root =
    either_command (maker.next ≡ 32 ^ maker.levels) (refuse (codes "spent")) (use_number names maker root)

-- The maker's key and the root key are read, and the maker endorses the root key. It does not ask whose the root key
-- is, and takes keys of all twenty pairs of types: a maker may have root keys in hardware of another height.
unfoldable pub endorse : EndorseNames → Command
endorse names =
    read (maker_input names.key) (λ maker.
    read (root_input names.root) (λ root.
    endorse_root names maker root))
