-- The orders of a workload can be spelled.
use Rattle.std.proofs.Common.{◌≡◌, ℕ, ◌≤◌, ◌<◌, ◌^◌, List, [], length, refl, sym, subst, arith}
use Rattle.mb_format.specs.Combinators.{items}
use Rattle.mb_model.specs.declared.key.PublicKey.{PublicKey}
use Rattle.mb_model.specs.declared.layer.Trusts.{Trusts}
use Rattle.mb_model.specs.owners.Layers.{equal_trusts}
use Rattle.mb_model.proofs.OrderFormatLaws.{form_listed, given_allowed}
use Rattle.mb_model.specs.declared.key.Trust.TheVariants.{Countersigned}
use Rattle.mb_model.specs.declared.order.KeyKind.{KeyKind}
use Rattle.mb_model.specs.declared.order.Payload.{Payload}
use Rattle.mb_model.specs.declared.order.Act.{Act}
use Rattle.mb_model.specs.declared.order.Act.TheVariants as act
use Rattle.mb_model.specs.declared.tools.Keyfile.{Keyfile}
use Rattle.mb_model.specs.signatures.Key.{IsSized}
use Rattle.mb_model.specs.records.KeyFormat.{public_key_format}
use Rattle.mb_model.specs.records.LayerFormat.{trust_format}
use Rattle.mb_model.specs.records.EntryFormat.{key_kind_format}
use Rattle.mb_model.specs.records.OrderFormat.{target_format, payload_format, body_format, sized_signature_format, countersignatures_format, order_format}
use Rattle.mb_model.specs.signatures.Signing.{public_of}
use Rattle.mb_model_commands.specs.Workload.{Draws, Plan, plan_payload, key_of_officer}
use Rattle.mb_model_lemmas.proofs.SignatureLemmas.{public_sized, officer_key-sized}
use Rattle.mb_generate.specs.Orders.{keyfile_after, targeted, CanBeOrdered}

-- ---- what can be spelled

pub can_establish : (L : ℕ) (owner : PublicKey) (trust : Trusts) → 2 ≤ L → L ≤ 3 → IsSized owner → CanBeOrdered L (act.Establish owner trust)
unfolding trust_format public_key_format
can_establish L owner trust least most sized = record {
  layered = (least, most);
  spelled = ((tt, (tt, (sized.identifier, sized.root))), given_allowed trust);
}

-- the key of an officer is sized
owner_sized : (draws : Draws) (before : List Plan) (n : ℕ) (k : Keyfile) → k ≡ keyfile_after draws before n → IsSized (public_of k.seed)
owner_sized draws before n k is =
    subst (λ (x : Keyfile). IsSized (public_of x.seed)) (sym is) (public_sized (key_of_officer draws n) (officer_key-sized _).identifier)

-- what gives a layer an officer as its owner
pub can_give : (L : ℕ) (draws : Draws) (n : ℕ) (k : Keyfile) (what : Act) → 2 ≤ L → L ≤ 3 → k ≡ keyfile_after draws [] n → what ≡ act.Establish (public_of k.seed) (equal_trusts Countersigned) → CanBeOrdered L what
can_give L draws n k what least most is given =
    subst (CanBeOrdered L) (sym given) (can_establish L (public_of k.seed) (equal_trusts Countersigned) least most (owner_sized draws [] n k is))

pub can_load : (L : ℕ) (load : Payload) → 1 ≤ L → L ≤ 3 → load.version < 2 ^ 32 → length load.code ≤ 32768 → CanBeOrdered L (act.Load load)
unfolding payload_format trust_format
can_load L load least most version fits = record {
  layered = (least, most);
  spelled = (version, (given_allowed load.trust, ((omega arith, fits), refl)));
}

-- a load that is made of a version and a code
pub can_carry : (L version : ℕ) (code : List ℕ) (load : Payload) → load ≡ plan_payload version code → 1 ≤ L → L ≤ 3 → version < 2 ^ 32 → length code ≤ 32768 → CanBeOrdered L (act.Load load)
can_carry L version code load is least most few fits =
    subst (λ (p : Payload). CanBeOrdered L (act.Load p)) (sym is) (can_load L (plan_payload version code) least most few fits)

pub can_emergency : (L : ℕ) (load : Payload) → 2 ≤ L → L ≤ 3 → load.version < 2 ^ 32 → length load.code ≤ 32768 → CanBeOrdered L (act.Emergency load)
unfolding payload_format trust_format
can_emergency L load least most version fits = record {
  layered = (least, most);
  spelled = (version, (given_allowed load.trust, ((omega arith, fits), refl)));
}

pub can_replace : (L version : ℕ) (code : List ℕ) (load : Payload) → load ≡ plan_payload version code → 2 ≤ L → L ≤ 3 → version < 2 ^ 32 → length code ≤ 32768 → CanBeOrdered L (act.Emergency load)
can_replace L version code load is least most few fits =
    subst (λ (p : Payload). CanBeOrdered L (act.Emergency p)) (sym is) (can_emergency L (plan_payload version code) least most few fits)

pub can_make_key : (L : ℕ) (kind : KeyKind) → 2 ≤ L → L ≤ 3 → CanBeOrdered L (act.NewKey kind)
unfolding key_kind_format
can_make_key L kind least most = record { layered = (least, most); spelled = tt }

pub targeted_allowed : (L count : ℕ) (what : Act) → CanBeOrdered L what → count < 2 ^ 32 → order_format.Allowed (targeted L count what)
unfolding order_format body_format target_format items sized_signature_format countersignatures_format
targeted_allowed L count what can fits = (
  (form_listed what, (can.layered, (((omega arith, omega arith), ((tt, fits), refl)), can.spelled))),
  (((omega arith, omega arith), refl), ((omega arith, omega arith), refl)),
)
