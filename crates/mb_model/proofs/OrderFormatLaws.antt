-- Orders are read exactly.
use Rattle.std.proofs.Common.{◌≡◌, ℕ, ◌-◌, ◌<◌, Bool, true, false, not, List, ◌++◌, length, Some, refl, sym, ap, ◌∙◌, arith, rules}
use Rattle.std.specs.Int.{w8}
use Rattle.mb_format.specs.Reading.{IsExact}
use Rattle.mb_format.specs.Combinators.{number, limit, row_of, items, times}
use Rattle.mb_format.proofs.Rules.{exactly}
use Rattle.mb_format.proofs.Fields.{IsTable, IsList, wide8, listed_exact, nothing_exact}
use Rattle.mb_format.proofs.Compositions.{both_exact, as_record_exact, items_length, items_spelling, times_spelling}
use Rattle.mb_model.specs.declared.key.PublicKey.{PublicKey}
use Rattle.mb_model.specs.declared.key.Trust.{Trust}
use Rattle.mb_model.specs.declared.key.Trust.TheVariants.{Always, Never, Countersigned}
use Rattle.mb_model.specs.declared.layer.Trusts.{Trusts}
use Rattle.mb_model.specs.declared.order.KeyKind.{KeyKind}
use Rattle.mb_model.specs.declared.order.Target.{Target}
use Rattle.mb_model.specs.declared.order.Target.TheVariants.{Serial, Length, Owner, Code}
use Rattle.mb_model.specs.declared.order.Act.{Act}
use Rattle.mb_model.specs.declared.order.Act.TheVariants.{Establish, Surrender, Load, Emergency, NewKey}
use Rattle.mb_model.specs.declared.order.OrderKind.{OrderKind}
use Rattle.mb_model.specs.declared.order.OrderKind.TheVariants as kind
use Rattle.mb_model.specs.declared.order.OrderForm.{OrderForm}
use Rattle.mb_model.specs.declared.order.Payload.{Payload}
use Rattle.mb_model.specs.declared.order.Countersignature.{Countersignature}
use Rattle.mb_model.specs.records.OrderFormat.{TargetTag, serial_tag, length_tag, owner_tag, code_tag, target_byte, target_rows, target_tag, demanded_serial, demanded_length, demanded_owner, demanded_code, target_by, target_format, form_byte, form, form_rows, form_of, other_rows, differing_trusts, given_trusts, establish_in, load_in, emergency_in, made_in, payload_format, act_by, Body, body_by, body_format, sized_signature_format, Climb, countersignature_format, climb_after, countersignature_limit, countersignatures_format, order_format}
use Rattle.mb_model.specs.owners.Layers.{is_same_trust, are_equal}
use Rattle.mb_model.specs.records.LayerFormat.{trust_byte, trust_format}
use Rattle.mb_model.proofs.KeyFormatLaws.{public_key_exact, trust_exact, one_trust_exact}
use Rattle.mb_model.proofs.EntryFormatLaws.{key_kind_exact}

-- ---- targets

pub target_table : IsTable w8 target_rows target_byte
target_table = record { rows_are = search rules; back = elim [ serial_tag ↦ refl | length_tag ↦ refl | owner_tag ↦ refl | code_tag ↦ refl ] }

serial_only : (target : Target) (serial : List ℕ) → demanded_serial target ≡ Some serial → Serial serial ≡ target
serial_only target serial e = grind arith

length_only : (target : Target) (n : ℕ) → demanded_length target ≡ Some n → Length n ≡ target
length_only target n e = grind arith

owner_only : (target : Target) (p : ℕ × List ℕ) → demanded_owner target ≡ Some p → Owner p.0 p.1 ≡ target
owner_only target p e = grind arith

code_only : (target : Target) (p : ℕ × List ℕ) → demanded_code target ≡ Some p → Code p.0 p.1 ≡ target
code_only target p e = grind arith

pub target_by-exact : (tag : TargetTag) → IsExact (target_by tag)
target_by-exact serial_tag = search (exactly, serial_only) depth 20
target_by-exact length_tag = search (exactly, length_only) depth 20
target_by-exact owner_tag = search (exactly, owner_only) depth 20
target_by-exact code_tag = search (exactly, code_only) depth 20

pub target_keyed : (tag : TargetTag) (target : Target) → (target_by tag).Allowed target → target_tag target ≡ tag
target_keyed serial_tag target h = grind arith
target_keyed length_tag target h = grind arith
target_keyed owner_tag target h = grind arith
target_keyed code_tag target h = grind arith

pub target_exact : IsExact target_format
unfolding target_format
target_exact = search (exactly, target_table, target_by-exact, target_keyed) depth 20

-- ---- what an order does

pub form_list : IsList w8 form_rows form_byte
form_list = record { rows_are = search rules }

-- the form of what an order does has a row
pub form_listed : (act : Act) → row_of form_rows (form_byte (form_of act)) ≡ Some (form_of act)
form_listed (Establish owner trust) = either_form (not (are_equal trust))
  where
    either_form : (differs : Bool) → row_of form_rows (form_byte (form kind.Establish differs)) ≡ Some (form kind.Establish differs)
    either_form true = refl
    either_form false = refl
form_listed Surrender = refl
form_listed (Load payload) = either_form (not (are_equal payload.trust))
  where
    either_form : (differs : Bool) → row_of form_rows (form_byte (form kind.Load differs)) ≡ Some (form kind.Load differs)
    either_form true = refl
    either_form false = refl
form_listed (Emergency payload) = either_form (not (are_equal payload.trust))
  where
    either_form : (differs : Bool) → row_of form_rows (form_byte (form kind.Emergency differs)) ≡ Some (form kind.Emergency differs)
    either_form true = refl
    either_form false = refl
form_listed (NewKey key_kind) = refl

-- ---- the trusts that an order gives its layer

others_list : (one : Trust) → IsList w8 (other_rows one) trust_byte
others_list Always = record { rows_are = search rules }
others_list Never = record { rows_are = search rules }
others_list Countersigned = record { rows_are = search rules }

differing_exact : IsExact differing_trusts
differing_exact = as_record_exact _ _ (both_exact trust_exact (λ one h. listed_exact wide8 (others_list one))) (λ a h. refl) (λ b. refl)

pub given_exact : (differs : Bool) → IsExact (given_trusts differs)
given_exact false = one_trust_exact trust_exact
given_exact true = differing_exact

same_is : (trust : Trust) → is_same_trust trust trust ≡ true
same_is Always = refl
same_is Never = refl
same_is Countersigned = refl

others_differ : (one two : Trust) → row_of (other_rows one) (trust_byte two) ≡ Some two → is_same_trust one two ≡ false
others_differ Always Always h = absurd cc
others_differ Always Never h = refl
others_differ Always Countersigned h = refl
others_differ Never Always h = refl
others_differ Never Never h = absurd cc
others_differ Never Countersigned h = refl
others_differ Countersigned Always h = refl
others_differ Countersigned Never h = refl
others_differ Countersigned Countersigned h = absurd cc

-- trusts are given in the form of those that differ exactly where they do
pub given_differ : (differs : Bool) (trusts : Trusts) → (given_trusts differs).Allowed trusts → not (are_equal trusts) ≡ differs
unfolding trust_format
given_differ false trusts h = ap (λ (t : Trusts). not (are_equal t)) h.1 ∙ ap not (same_is trusts.one)
given_differ true trusts h = ap not (others_differ trusts.one trusts.two h.1)

-- each pair of trusts can be given, in its form
pub given_allowed : (trusts : Trusts) → (given_trusts (not (are_equal trusts))).Allowed trusts
unfolding trust_format
given_allowed trusts = by trusts.one trusts.two
  where
    by : (one two : Trust) → (given_trusts (not (is_same_trust one two))).Allowed (record { one = one; two = two })
    by Always Always = (tt, refl)
    by Always Never = (tt, refl)
    by Always Countersigned = (tt, refl)
    by Never Always = (tt, refl)
    by Never Never = (tt, refl)
    by Never Countersigned = (tt, refl)
    by Countersigned Always = (tt, refl)
    by Countersigned Never = (tt, refl)
    by Countersigned Countersigned = (tt, refl)

establish_only : (act : Act) (p : PublicKey × Trusts) → establish_in act ≡ Some p → Establish p.0 p.1 ≡ act
establish_only act p e = grind arith

load_only : (act : Act) (payload : Payload) → load_in act ≡ Some payload → Load payload ≡ act
load_only act payload e = grind arith

emergency_only : (act : Act) (payload : Payload) → emergency_in act ≡ Some payload → Emergency payload ≡ act
emergency_only act payload e = grind arith

made_only : (act : Act) (key_kind : KeyKind) → made_in act ≡ Some key_kind → NewKey key_kind ≡ act
made_only act key_kind e = grind arith

pub payload_exact : (differs : Bool) → IsExact (payload_format differs)
unfolding payload_format
payload_exact differs = search (exactly, given_exact) depth 20

pub act_by-exact : (order : OrderKind) (differs : Bool) → IsExact (act_by order differs)
act_by-exact kind.Establish differs = search (exactly, public_key_exact, given_exact, establish_only) depth 20
act_by-exact kind.Surrender differs = nothing_exact
act_by-exact kind.Load differs = search (exactly, payload_exact, load_only) depth 20
act_by-exact kind.Emergency differs = search (exactly, payload_exact, emergency_only) depth 20
act_by-exact kind.NewKey differs = search (exactly, key_kind_exact, made_only) depth 20

payload_differs : (differs : Bool) (payload : Payload) → (payload_format differs).Allowed payload → not (are_equal payload.trust) ≡ differs
unfolding payload_format
payload_differs differs payload h = given_differ differs payload.trust h.1.0

-- the form of an order is the one that was read
act_keyed : (f : OrderForm) (act : Act) → row_of form_rows (form_byte f) ≡ Some f → (act_by f.kind f.differs).Allowed act → form_of act ≡ f
act_keyed f act row h = of_kind f.kind f.differs act row h
  where
    of_kind : (order : OrderKind) (differs : Bool) (a : Act) → row_of form_rows (form_byte (form order differs)) ≡ Some (form order differs)
        → (act_by order differs).Allowed a → form_of a ≡ form order differs
    of_kind kind.Establish differs (Establish owner trust) row h = ap (form kind.Establish) (given_differ differs trust h.1)
    of_kind kind.Establish differs Surrender row h = absurd h
    of_kind kind.Establish differs (Load payload) row h = absurd h
    of_kind kind.Establish differs (Emergency payload) row h = absurd h
    of_kind kind.Establish differs (NewKey key_kind) row h = absurd h
    of_kind kind.Surrender false a row h = rw h refl
    of_kind kind.Surrender true a row h = absurd cc
    of_kind kind.Load differs (Load payload) row h = ap (form kind.Load) (payload_differs differs payload h)
    of_kind kind.Load differs (Establish owner trust) row h = absurd h
    of_kind kind.Load differs Surrender row h = absurd h
    of_kind kind.Load differs (Emergency payload) row h = absurd h
    of_kind kind.Load differs (NewKey key_kind) row h = absurd h
    of_kind kind.Emergency differs (Emergency payload) row h = ap (form kind.Emergency) (payload_differs differs payload h)
    of_kind kind.Emergency differs (Establish owner trust) row h = absurd h
    of_kind kind.Emergency differs Surrender row h = absurd h
    of_kind kind.Emergency differs (Load payload) row h = absurd h
    of_kind kind.Emergency differs (NewKey key_kind) row h = absurd h
    of_kind kind.NewKey false (NewKey key_kind) row h = refl
    of_kind kind.NewKey true (NewKey key_kind) row h = absurd cc
    of_kind kind.NewKey differs (Establish owner trust) row h = absurd h
    of_kind kind.NewKey differs Surrender row h = absurd h
    of_kind kind.NewKey differs (Load payload) row h = absurd h
    of_kind kind.NewKey differs (Emergency payload) row h = absurd h

-- ---- the signed part

pub body_by-exact : (f : OrderForm) → IsExact (body_by f)
body_by-exact f = search (exactly, target_exact, act_by-exact) depth 20

pub body_keyed : (f : OrderForm) (body : Body) → row_of form_rows (form_byte f) ≡ Some f → (body_by f).Allowed body → form_of body.act ≡ f
body_keyed f body row h = act_keyed f body.act row h.1.1

pub body_exact : IsExact body_format
unfolding body_format
body_exact = search (exactly, form_list, body_by-exact, body_keyed) depth 20

-- ---- the signatures

pub sized_signature_exact : IsExact sized_signature_format
unfolding sized_signature_format
sized_signature_exact = search exactly depth 20

pub below_four : (n : ℕ) → 4 - n < limit w8
below_four n = omega arith

pub countersignature_exact : (climb : Climb) → IsExact (countersignature_format climb)
countersignature_exact climb = search (exactly, below_four, sized_signature_exact) depth 20

pub most_small : (order : OrderKind) (n : ℕ) → countersignature_limit order n < limit w8
most_small kind.Establish n = omega arith
most_small kind.Surrender n = omega arith
most_small kind.Load n = omega arith
most_small kind.Emergency n = omega arith
most_small kind.NewKey n = omega arith

announced : (body : Body) (n : ℕ) (cs : List Countersignature) → (items countersignature_format climb_after n (record { below = body.layer; left = n })).Allowed cs → length cs ≡ n
announced body n cs h = items_length countersignature_format climb_after n (record { below = body.layer; left = n }) cs h

pub countersignatures_exact : (body : Body) → IsExact (countersignatures_format body)
unfolding countersignatures_format
countersignatures_exact body = search (exactly, most_small, countersignature_exact, announced) depth 20

-- a list of countersignatures is spelled the same whatever stood before them
pub countersignatures_spelling : (body : Body) (cs : List Countersignature) (climb : Climb)
    → (countersignatures_format body).spelling cs ≡ (number w8).spelling (length cs) ++ (times (length cs) (countersignature_format climb)).spelling cs
unfolding countersignatures_format
countersignatures_spelling body cs climb =
    ap (λ (xs : List ℕ). (number w8).spelling (length cs) ++ xs)
    (items_spelling countersignature_format climb_after (length cs) (record { below = body.layer; left = length cs }) (countersignature_format climb).spelling cs (λ s c. refl) refl
    ∙ sym (times_spelling (countersignature_format climb) (length cs) cs refl))

pub order_exact : IsExact order_format
unfolding order_format
order_exact = search (exactly, body_exact, sized_signature_exact, countersignatures_exact) depth 20
