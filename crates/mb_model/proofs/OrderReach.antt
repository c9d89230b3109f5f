-- How far an order is read: no further than the longest order is long.
use Rattle.std.proofs.Common.{◌+◌, ◌-◌, Bool, true, false, length, arith, lit<, lit≤}
use Rattle.std.specs.Int.{w8, w32}
use Rattle.mb_format.specs.Reading.{IsExact, IsLocal}
use Rattle.mb_format.specs.Combinators.{between}
use Rattle.mb_format.proofs.Fields.{wide8, wide16, wide32, raw_exact, number_exact, between_exact, table_exact, listed_exact}
use Rattle.mb_format.proofs.Compositions.{counted_exact}
use Rattle.mb_format.proofs.Bounds as bounds
use Rattle.mb_model.specs.declared.order.Act.TheVariants.{NewKey}
use Rattle.mb_model.specs.declared.order.Target.TheVariants.{Serial, Length}
use Rattle.mb_model.specs.signatures.Key.{tree_type, chains_type}
use Rattle.mb_model.specs.records.KeyFormat.{tree_rows, chains_rows, public_key_format}
use Rattle.mb_model.specs.records.LayerFormat.{trust_byte, trust_rows, trust_format}
use Rattle.mb_model.specs.records.EntryFormat.{key_kind_byte, key_kind_rows, key_kind_format}
use Rattle.mb_model.specs.declared.order.OrderKind.{OrderKind}
use Rattle.mb_model.specs.declared.order.OrderKind.TheVariants as kind
use Rattle.mb_model.specs.declared.order.OrderForm.{OrderForm}
use Rattle.mb_model.specs.owners.Rules.{kind_of, least_layer}
use Rattle.mb_model.specs.records.OrderFormat.{TargetTag, serial_tag, length_tag, owner_tag, code_tag, target_byte, target_rows, target_tag, demanded_serial, demanded_length, demanded_owner, demanded_code, target_by, target_format, form_byte, form_rows, other_rows, given_trusts, establish_in, load_in, emergency_in, made_in, payload_format, act_by, Body, body_by, body_format, sized_signature_format, Climb, countersignature_format, climb_after, countersignature_limit, countersignatures_format, order_format}
use Rattle.mb_model.proofs.KeyFormatLaws.{tree_table, chains_table, public_key_exact, trust_exact}
use Rattle.mb_model.proofs.OrderFormatLaws.{target_table, target_exact, form_list, given_exact, body_exact, below_four, most_small, sized_signature_exact, countersignature_exact}
use Rattle.mb_model.proofs.FormatBounds.{most_two}

-- a layer's number
one_to_three : IsExact (between w8 1 3)
one_to_three = between_exact wide8 (lit< tt)

key_local : IsLocal public_key_format 56
unfolding public_key_format
key_local = bounds.as_record_local _ _
    (bounds.pair_local (table_exact wide32 tree_table) (bounds.table_local w32 tree_rows tree_type)
    (bounds.pair_local (table_exact wide32 chains_table) (bounds.table_local w32 chains_rows chains_type)
    (bounds.pair_local (raw_exact 16) bounds.raw_local bounds.raw_local)))

trust_local : IsLocal trust_format 1
unfolding trust_format
trust_local = bounds.table_local w8 trust_rows trust_byte

key_kind_local : IsLocal key_kind_format 1
unfolding key_kind_format
key_kind_local = bounds.table_local w8 key_kind_rows key_kind_byte

target_by-local : (tag : TargetTag) → IsLocal (target_by tag) 33
target_by-local serial_tag = bounds.local_more (bounds.as_value_local Serial demanded_serial bounds.raw_local) (lit≤ tt)
target_by-local length_tag = bounds.local_more (bounds.as_value_local Length demanded_length (bounds.number_local w32)) (lit≤ tt)
target_by-local owner_tag = bounds.as_value_local _ demanded_owner (bounds.pair_local one_to_three (bounds.between_local w8 1 3) bounds.raw_local)
target_by-local code_tag = bounds.as_value_local _ demanded_code (bounds.pair_local one_to_three (bounds.between_local w8 1 3) bounds.raw_local)

target_local : IsLocal target_format 34
unfolding target_format
target_local = bounds.led_local target_tag (table_exact wide8 target_table) (bounds.table_local w8 target_rows target_byte) (λ tag h. target_by-local tag)

given_local : (differs : Bool) → IsLocal (given_trusts differs) 2
given_local false = bounds.local_more (bounds.led_local (λ trusts. trusts.one) trust_exact trust_local (λ trust h. bounds.nothing_local)) (lit≤ tt)
given_local true = bounds.as_record_local _ _ (bounds.both_local trust_exact trust_local (λ one h. bounds.listed_local w8 (other_rows one) trust_byte))

payload_local : (differs : Bool) → IsLocal (payload_format differs) 32778
unfolding payload_format
payload_local differs = bounds.as_record_local _ _ (bounds.pair_local (number_exact wide32) (bounds.number_local w32) (bounds.pair_local (given_exact differs) (given_local differs) (bounds.sized_local 0 32768 wide32 (lit< tt))))

act_by-local : (order : OrderKind) (differs : Bool) → IsLocal (act_by order differs) 32778
act_by-local kind.Establish differs = bounds.local_more (bounds.as_value_local _ establish_in (bounds.pair_local public_key_exact key_local (given_local differs))) (lit≤ tt)
act_by-local kind.Surrender differs = bounds.local_more bounds.nothing_local (lit≤ tt)
act_by-local kind.Load differs = bounds.as_value_local _ load_in (payload_local differs)
act_by-local kind.Emergency differs = bounds.as_value_local _ emergency_in (payload_local differs)
act_by-local kind.NewKey differs = bounds.local_more (bounds.as_value_local NewKey made_in key_kind_local) (lit≤ tt)

body_by-local : (f : OrderForm) → IsLocal (body_by f) 33052
body_by-local f = bounds.as_record_local _ _
    (bounds.pair_local (between_exact wide8 (lit< tt)) (bounds.between_local w8 (least_layer f.kind) 3)
    (bounds.pair_local (counted_exact (between_exact wide8 (lit< tt)) target_exact) (bounds.counted_local 0 8 wide8 (lit< tt) target_exact target_local) (act_by-local f.kind f.differs)))

body_local : IsLocal body_format 33053
unfolding body_format
body_local = bounds.led_local _ (listed_exact wide8 form_list) (bounds.listed_local w8 form_rows form_byte) (λ f h. body_by-local f)

signature_local : IsLocal sized_signature_format 9326
unfolding sized_signature_format
signature_local = bounds.sized_local 0 9324 wide16 (lit< tt)

countersignature_local : (climb : Climb) → IsLocal (countersignature_format climb) 9327
countersignature_local climb = bounds.as_record_local _ _
    (bounds.pair_local (between_exact wide8 (below_four climb.left)) (bounds.between_local w8 (climb.below + 1) (4 - climb.left)) signature_local)

countersignatures_local : (body : Body) → body_format.Allowed body → IsLocal (countersignatures_format body) 18655
unfolding countersignatures_format
countersignatures_local body h =
    bounds.led_local {n = 18654} length (between_exact wide8 (most_small (kind_of body.act) body.layer)) (bounds.between_local w8 0 (countersignature_limit (kind_of body.act) body.layer))
    (λ n g. (let two = most_two body h in bounds.local_more (bounds.items_local climb_after n (record { below = body.layer; left = n }) countersignature_exact countersignature_local) (omega (arith, g.1, two))))

pub order_local : IsLocal order_format 61034
unfolding order_format
order_local = bounds.as_record_local _ _ (bounds.both_local body_exact body_local (λ body h. bounds.pair_local sized_signature_exact signature_local (countersignatures_local body h)))
