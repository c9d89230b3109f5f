-- What the commands `sign` and `countersign` do. Is one index used for one signature, and is the draft what was signed?
use Rattle.std.specs.Prelude.{◌≡◌, ℕ, List, ◌++◌, codes}
use Rattle.std.specs.Fmt.{decimal}
use Rattle.mb_model.specs.declared.order.Order.{Order}
use Rattle.mb_model.specs.declared.tools.Keyfile.{Keyfile}
use Rattle.mb_model.specs.records.KeyFormat.{keyfile_format}
use Rattle.mb_model.specs.outside.Texts.{line_with_lf}
use Rattle.mb_model.specs.chains.OrderLines.{order_line}
use Rattle.mb_model.specs.machine.SignedOrders.{keyfile_after_use, signed_order, countersigned_order, IsCountersignable}
use Rattle.mb_model_commands.specs.declared.role.Role.TheVariants as role
use Rattle.mb_model_commands.specs.Commands.{Command, read, either_command, write, print, refuse}
use Rattle.mb_model_commands.specs.Inputs.{key_input, draft_input, order_input}

-- the names of the files of `sign`
pub record SignNames : Type 0 where
  pub key : List ℕ
  pub draft : List ℕ
  pub out : List ℕ

-- the names of the files of `countersign`, and the layer whose owner countersigns
pub record CountersignNames : Type 0 where
  pub key : List ℕ
  pub layer : ℕ
  pub order : List ℕ
  pub out : List ℕ

-- the line that reports an index
abbrev pub index_text : ℕ → List ℕ
index_text index = line_with_lf (codes "index " ++ decimal index)

-- the key is written with one more index used, then the order that was signed with it, and the index is printed
unfoldable pub use_index : List ℕ → List ℕ → Keyfile → Order → Command
use_index key_name out_name key order =
    write (record { role = role.Key; name = key_name; bytes = keyfile_format.spelling (keyfile_after_use key) })
    (write (record { role = role.Out; name = out_name; bytes = line_with_lf (order_line order) })
    (print (index_text key.next)))

-- the key signs, unless its 32 indices are used
unfoldable pub sign_by : List ℕ → List ℕ → Keyfile → Order → Command
sign_by key_name out_name key order =
    either_command (key.next ≡ 32) (refuse (codes "spent")) (use_index key_name out_name key order)

-- the key and the draft are read, and the key signs the draft's order
unfoldable pub sign : SignNames → Command
sign names =
    read (key_input names.key) (λ key.
    read (draft_input names.draft) (λ order.
    sign_by names.key names.out key (signed_order key order)))

-- The key countersigns as the owner of a layer, if the order that is read is countersignable for that layer. Whether an
-- order can take the countersignature is asked before whether the key is spent: it does not depend on the key, and an
-- officer should learn it without looking for another one.
unfoldable pub countersign : CountersignNames → Command
countersign names =
    read (key_input names.key) (λ key.
    read (order_input names.order) (λ order.
    either_command (IsCountersignable order names.layer → ⊥) (refuse (codes "not countersignable"))
    (sign_by names.key names.out key (countersigned_order key names.layer order))))
