-- The parts of an order: each has an allowed value, and its single bytes are read by themselves.
use Rattle.std.proofs.Common.{true, false, Bool, ◌%◌, ◌≡◌, ℕ, suc, ◌+◌, ◌-◌, ◌<◌, ◌≤◌, [], length, refl, arith, lit<, lit≤, rules}
use Rattle.std.specs.Prelude.{◌==◌, if◌then◌else◌}
use Rattle.std.specs.Int.{Width, w8, w16, w32}
use Rattle.std.proofs.lemmas.Bool.{lt-ltb}
use Rattle.mb_format.specs.Reading.{IsExact, IsLocal}
use Rattle.mb_format.specs.Combinators.{raw, number_bytes, number, between, table, listed, row_of, sized, items, counted, pair}
use Rattle.mb_format.proofs.Fields.{IsList, wide8, wide16, wide32, between_exact, listed_exact}
use Rattle.mb_format.proofs.Compositions.{pair_exact, counted_exact, sized_exact, items_length}
use Rattle.mb_format.proofs.Bounds.{table_local}
use Rattle.mb_model.specs.declared.key.Tree.{Tree}
use Rattle.mb_model.specs.declared.key.Chains.{Chains}
use Rattle.mb_model.specs.declared.key.Tree.TheVariants as tree
use Rattle.mb_model.specs.declared.key.Chains.TheVariants as chains
use Rattle.mb_model.specs.declared.key.Trust.{Trust}
use Rattle.mb_model.specs.declared.key.Trust.TheVariants as trust
use Rattle.mb_model.specs.declared.order.KeyKind.TheVariants as key_kind
use Rattle.mb_model.specs.declared.order.Act.TheVariants.{NewKey}
use Rattle.mb_model.specs.declared.order.Target.TheVariants.{Serial, Length}
use Rattle.mb_model.specs.declared.order.Countersignature.{Countersignature}
use Rattle.mb_model.specs.declared.order.OrderKind.{OrderKind}
use Rattle.mb_model.specs.declared.order.OrderKind.TheVariants as kind
use Rattle.mb_model.specs.declared.order.OrderForm.{OrderForm}
use Rattle.mb_model.specs.signatures.Key.{tree_type, chains_type}
use Rattle.mb_model.specs.records.KeyFormat.{tree_rows, chains_rows, public_key_format}
use Rattle.mb_model.specs.records.LayerFormat.{trust_byte, trust_rows, trust_format}
use Rattle.mb_model.specs.records.EntryFormat.{key_kind_byte, key_kind_rows, key_kind_format}
use Rattle.mb_model.specs.owners.Rules.{kind_of, least_layer}
use Rattle.mb_model.specs.records.OrderFormat.{TargetTag, serial_tag, length_tag, owner_tag, code_tag, target_byte, target_rows, target_tag, demanded_serial, demanded_length, demanded_owner, demanded_code, target_by, target_format, form_byte, form_rows, form, other_rows, given_trusts, establish_in, load_in, emergency_in, made_in, payload_format, act_by, Body, body_by, sized_signature_format, Climb, countersignature_format, climb_after, countersignature_limit, countersignatures_format}
use Rattle.mb_model.proofs.OrderFormatLaws.{target_exact, target_keyed, form_list, act_by-exact}
use Rattle.mb_command.specs.Beginnings.{IsInhabited}
use Rattle.mb_command.specs.Surveys.{countersignatures_above}
use Rattle.mb_command.proofs.Inhabited as some
use Rattle.mb_command.proofs.Surveying.{IsTableOf}

-- ---- single fields

-- a small number is spelled in bytes
small_8 : (n : ℕ) → n < 256 → some.all_bytes (number_bytes w8 n) ≡ true
unfolding some.all_bytes number_bytes
small_8 n lt = rw (lt-ltb (n % 256) 256 (omega arith)) refl

between_inhabited : (w : Width) (least most n : ℕ) → least ≤ n → n ≤ most → some.all_bytes (number_bytes w n) ≡ true → IsInhabited (between w least most)
between_inhabited w least most n low high e = some.inhabited_by n (low, high) e

-- a number of a byte, from `least` to `most`
pub byte_inhabited : (least most : ℕ) → least ≤ most → least < 256 → IsInhabited (between w8 least most)
byte_inhabited least most le small = between_inhabited w8 least most least (omega arith) le (small_8 least small)

pub trees_inhabited : IsInhabited (table w32 tree_rows tree_type)
unfolding some.all_bytes number_bytes
trees_inhabited = some.inhabited_by tree.H5 tt refl

pub chains_inhabited : IsInhabited (table w32 chains_rows chains_type)
unfolding some.all_bytes number_bytes
chains_inhabited = some.inhabited_by chains.W4 tt refl

no_code_inhabited : IsInhabited (between w32 0 32768)
unfolding some.all_bytes number_bytes
no_code_inhabited = between_inhabited w32 0 32768 0 (lit≤ tt) (lit≤ tt) refl

no_signature_inhabited : IsInhabited (between w16 0 9324)
unfolding some.all_bytes number_bytes
no_signature_inhabited = between_inhabited w16 0 9324 0 (lit≤ tt) (lit≤ tt) refl

pub number_inhabited : IsInhabited (number w32)
unfolding some.all_bytes number_bytes
number_inhabited = some.inhabited_by 0 (lit< tt) refl

pub trust_inhabited : IsInhabited trust_format
unfolding trust_format
trust_inhabited = some.inhabited_by trust.Always tt (small_8 0 (lit< tt))

pub trust_local : IsLocal trust_format 1
unfolding trust_format
trust_local = table_local w8 trust_rows trust_byte

pub other_inhabited : (one : Trust) → IsInhabited (listed w8 (other_rows one) trust_byte)
other_inhabited trust.Always = some.inhabited_by trust.Never refl (small_8 1 (lit< tt))
other_inhabited trust.Never = some.inhabited_by trust.Always refl (small_8 0 (lit< tt))
other_inhabited trust.Countersigned = some.inhabited_by trust.Always refl (small_8 0 (lit< tt))

others_list : (one : Trust) → IsList w8 (other_rows one) trust_byte
others_list trust.Always = record { rows_are = search rules }
others_list trust.Never = record { rows_are = search rules }
others_list trust.Countersigned = record { rows_are = search rules }

pub other_exact : (one : Trust) → IsExact (listed w8 (other_rows one) trust_byte)
other_exact one = listed_exact wide8 (others_list one)

pub key_kind_inhabited : IsInhabited key_kind_format
unfolding key_kind_format
key_kind_inhabited = some.inhabited_by key_kind.Epoch tt (small_8 0 (lit< tt))

pub key_kind_local : IsLocal key_kind_format 1
unfolding key_kind_format
key_kind_local = table_local w8 key_kind_rows key_kind_byte

pub form_inhabited : IsInhabited (listed w8 form_rows form_byte)
form_inhabited = some.inhabited_by (form kind.Establish false) refl (small_8 1 (lit< tt))

pub form_exact : IsExact (listed w8 form_rows form_byte)
form_exact = listed_exact wide8 form_list

-- ---- the type numbers of a key

abbrev pub tree_numbered : ℕ → Tree
tree_numbered n = if n == 5 then tree.H5 else if n == 6 then tree.H10 else if n == 7 then tree.H15 else if n == 8 then tree.H20 else tree.H25

pub trees_are : IsTableOf (row_of tree_rows) 5 9 tree_numbered
trees_are = record { inside = λ n m e. grind arith; outside = λ n e. grind arith }

abbrev pub chains_numbered : ℕ → Chains
chains_numbered n = if n == 1 then chains.W1 else if n == 2 then chains.W2 else if n == 3 then chains.W4 else chains.W8

pub chains_are : IsTableOf (row_of chains_rows) 1 4 chains_numbered
chains_are = record { inside = λ n m e. grind arith; outside = λ n e. grind arith }

-- ---- what an order does

pub code_exact : IsExact (sized (between w32 0 32768))
code_exact = sized_exact (between_exact wide32 (lit< tt))

pub code_inhabited : IsInhabited (sized (between w32 0 32768))
code_inhabited = some.led_inhabited length (λ n xs h g. g) no_code_inhabited (λ n h. some.raw_inhabited n)

pub given_inhabited : (differs : Bool) → IsInhabited (given_trusts differs)
given_inhabited false = some.led_inhabited (λ trusts. trusts.one) (λ one trusts h g. rw g refl) trust_inhabited (λ one h. some.nothing_inhabited)
given_inhabited true = some.as_record_inhabited _ _ (λ a h. refl) (some.both_inhabited trust_inhabited (λ one h. other_inhabited one))

pub payload_inhabited : (differs : Bool) → IsInhabited (payload_format differs)
unfolding payload_format
payload_inhabited differs = some.as_record_inhabited _ _ (λ a h. refl) (some.pair_inhabited number_inhabited (some.pair_inhabited (given_inhabited differs) code_inhabited))

pub identifier_inhabited : IsInhabited (pair (raw 16) (raw 32))
identifier_inhabited = some.pair_inhabited (some.raw_inhabited 16) (some.raw_inhabited 32)

pub key_inhabited : IsInhabited public_key_format
unfolding public_key_format
key_inhabited = some.as_record_inhabited _ _ (λ a h. refl)
    (some.pair_inhabited trees_inhabited (some.pair_inhabited chains_inhabited identifier_inhabited))

pub act_by-inhabited : (order : OrderKind) (differs : Bool) → IsInhabited (act_by order differs)
act_by-inhabited kind.Establish differs = some.as_value_inhabited _ establish_in (λ a h. refl) (some.pair_inhabited key_inhabited (given_inhabited differs))
act_by-inhabited kind.Surrender differs = some.nothing_inhabited
act_by-inhabited kind.Load differs = some.as_value_inhabited _ load_in (λ a h. refl) (payload_inhabited differs)
act_by-inhabited kind.Emergency differs = some.as_value_inhabited _ emergency_in (λ a h. refl) (payload_inhabited differs)
act_by-inhabited kind.NewKey differs = some.as_value_inhabited NewKey made_in (λ a h. refl) key_kind_inhabited

-- ---- the signed part

pub one_exact : IsExact (between w8 1 3)
one_exact = between_exact wide8 (lit< tt)

one_inhabited : IsInhabited (between w8 1 3)
one_inhabited = byte_inhabited 1 3 (lit≤ tt) (lit< tt)

pub target_by-inhabited : (tag : TargetTag) → IsInhabited (target_by tag)
target_by-inhabited serial_tag = some.as_value_inhabited Serial demanded_serial (λ a h. refl) (some.raw_inhabited 16)
target_by-inhabited length_tag = some.as_value_inhabited Length demanded_length (λ a h. refl) number_inhabited
target_by-inhabited owner_tag = some.as_value_inhabited _ demanded_owner (λ a h. refl) (some.pair_inhabited one_inhabited (some.raw_inhabited 32))
target_by-inhabited code_tag = some.as_value_inhabited _ demanded_code (λ a h. refl) (some.pair_inhabited one_inhabited (some.raw_inhabited 32))

pub tag_inhabited : IsInhabited (table w8 target_rows target_byte)
tag_inhabited = some.inhabited_by serial_tag tt (small_8 1 (lit< tt))

pub target_inhabited : IsInhabited target_format
unfolding target_format
target_inhabited = some.led_inhabited target_tag (λ tag target h g. target_keyed tag target g) tag_inhabited (λ tag h. target_by-inhabited tag)

pub targets_exact : IsExact (counted (between w8 0 8) target_format)
targets_exact = counted_exact (between_exact wide8 (lit< tt)) target_exact

pub targets_inhabited : IsInhabited (counted (between w8 0 8) target_format)
targets_inhabited = some.led_inhabited length (λ n xs h g. items_length (λ (u : Unit {0}). target_format) (λ u a. u) n tt xs g) (byte_inhabited 0 8 (lit≤ tt) (lit< tt)) (λ n h. some.times_inhabited n target_inhabited)

pub least_small : (order : OrderKind) → least_layer order ≤ 3
least_small order = grind arith

pub layer_exact : (order : OrderKind) → IsExact (between w8 (least_layer order) 3)
layer_exact order = between_exact wide8 (lit< tt)

pub after_layer_exact : (f : OrderForm) → IsExact (pair (counted (between w8 0 8) target_format) (act_by f.kind f.differs))
after_layer_exact f = pair_exact targets_exact (act_by-exact f.kind f.differs)

pub after_layer_inhabited : (f : OrderForm) → IsInhabited (pair (counted (between w8 0 8) target_format) (act_by f.kind f.differs))
after_layer_inhabited f = some.pair_inhabited targets_inhabited (act_by-inhabited f.kind f.differs)

pub body_by-inhabited : (f : OrderForm) → IsInhabited (body_by f)
body_by-inhabited f = some.as_record_inhabited _ _ (λ a h. refl) (some.pair_inhabited (byte_inhabited (least_layer f.kind) 3 (least_small f.kind) (omega (arith, least_small f.kind))) (after_layer_inhabited f))

-- ---- the signatures

pub length_exact : IsExact (between w16 0 9324)
length_exact = between_exact wide16 (lit< tt)

pub signature_inhabited : IsInhabited sized_signature_format
unfolding sized_signature_format
signature_inhabited = some.led_inhabited length (λ n xs h g. g) no_signature_inhabited (λ n h. some.raw_inhabited n)

-- there is a layer for each countersignature that is still to come
pub record HasRoom (n : ℕ) (climb : Climb) : Type 0 where
  pub left : climb.left ≡ n
  pub room : climb.below + n ≤ 3

next_inhabited : (n : ℕ) (climb : Climb) → HasRoom (suc n) climb → IsInhabited (between w8 (climb.below + 1) (4 - climb.left))
next_inhabited n climb can = byte_inhabited (climb.below + 1) (4 - climb.left) (omega (arith, can.left, can.room)) (omega (arith, can.room))

countersignature_inhabited : (n : ℕ) (climb : Climb) → HasRoom (suc n) climb → IsInhabited (countersignature_format climb)
countersignature_inhabited n climb can = some.as_record_inhabited _ _ (λ a h. refl) (some.pair_inhabited (next_inhabited n climb can) signature_inhabited)

climbs_on : (n : ℕ) (climb : Climb) (c : Countersignature) → HasRoom (suc n) climb → (countersignature_format climb).Allowed c → HasRoom n (climb_after climb c)
climbs_on n climb c can h = record { left = omega (arith, can.left); room = omega (arith, h.0.1, can.left, can.room) }

-- the countersignatures still to come have room
pub climb_inhabited : (n : ℕ) (climb : Climb) → HasRoom n climb → IsInhabited (items countersignature_format climb_after n climb)
climb_inhabited n climb can = some.items_inhabited climb_after HasRoom n climb can countersignature_inhabited climbs_on

-- and those after the next
pub later_inhabited : (n : ℕ) (climb : Climb) (c : Countersignature) → HasRoom (suc n) climb → (countersignature_format climb).Allowed c → IsInhabited (items countersignature_format climb_after n (climb_after climb c))
later_inhabited n climb c can h = climb_inhabited n (climb_after climb c) (climbs_on n climb c can h)

-- a layer is at most 3, and no more countersign it than layers are above
pub begins_climb : (order : OrderKind) (layer n : ℕ) → layer ≤ 3 → n ≤ countersignature_limit order layer → HasRoom n (record { below = layer; left = n })
begins_climb order layer n most le = record { left = refl; room = layers order layer n most le }
  where
    layers : (order : OrderKind) (layer n : ℕ) → layer ≤ 3 → n ≤ countersignature_limit order layer → layer + n ≤ 3
    layers kind.Establish layer n most le = omega arith
    layers kind.Surrender layer n most le = omega arith
    layers kind.Load layer n most le = omega arith
    layers kind.Emergency layer n most le = omega arith
    layers kind.NewKey layer n most le = omega arith

-- no countersignature is allowed
pub none_inhabited : (body : Body) → IsInhabited (countersignatures_format body)
unfolding countersignatures_format items some.all_bytes number_bytes
none_inhabited body = some.inhabited_by [] ((omega arith, omega arith), refl) refl

pub above_is : (body : Body) → countersignatures_format body ≡ countersignatures_above (kind_of body.act) body.layer
unfolding countersignatures_format
above_is body = refl
