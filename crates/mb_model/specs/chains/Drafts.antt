-- The draft of an order: what an officer writes before signing. Is what is signed what was written?
use Rattle.std.specs.Prelude.{◌≡◌, ◌⊎◌, ℕ, ◌≤◌, List, [], ◌∷◌, ◌++◌, length, codes, IsTrue}
use Rattle.std.specs.List.{AllZip}
use Rattle.std.specs.Fmt.{decimal}
use Rattle.mb_model.specs.declared.limits.TheConstants.{CODE_LIMIT, TARGET_LIMIT}
use Rattle.mb_model.specs.declared.key.PublicKey.{PublicKey}
use Rattle.mb_model.specs.declared.key.Trust.{Trust}
use Rattle.mb_model.specs.declared.key.Trust.TheVariants.{Always, Never, Countersigned}
use Rattle.mb_model.specs.declared.layer.Trusts.{Trusts}
use Rattle.mb_model.specs.declared.order.KeyKind.{KeyKind}
use Rattle.mb_model.specs.declared.order.KeyKind.TheVariants as kinds
use Rattle.mb_model.specs.declared.order.Payload.{Payload}
use Rattle.mb_model.specs.declared.order.Act.{Act}
use Rattle.mb_model.specs.declared.order.Act.TheVariants as act
use Rattle.mb_model.specs.declared.order.Target.{Target}
use Rattle.mb_model.specs.declared.order.Target.TheVariants as target
use Rattle.mb_model.specs.declared.order.Order.{Order}
use Rattle.mb_model.specs.signatures.Key.{key_bytes, IsSized}
use Rattle.mb_model.specs.owners.Layers.{equal_trusts, is_layer_number}
use Rattle.mb_model.specs.owners.Rules.{kind_of, MayBeFor}
use Rattle.mb_model.specs.chains.Lines.{spaced_words, number_limit}
use Rattle.mb_model.specs.chains.Script.{EndsInHex}

-- the word for a trust
abbrev pub trust_word : Trust → List ℕ
trust_word Always = codes "always"
trust_word Never = codes "never"
trust_word Countersigned = codes "countersigned"

-- the word for the kind of a key
abbrev pub kind_word : KeyKind → List ℕ
kind_word kinds.Epoch = codes "epoch"
kind_word kinds.Configuration = codes "configuration"

-- the words of the whole first line: what is ordered, and for which layer
abbrev pub order_words : Act → ℕ → List (List ℕ)
order_words (act.Establish owner trust) layer = codes "order" ∷ codes "establish" ∷ decimal layer ∷ []
order_words act.Surrender layer = codes "order" ∷ codes "surrender" ∷ decimal layer ∷ []
order_words (act.Load payload) layer = codes "order" ∷ codes "load" ∷ decimal layer ∷ []
order_words (act.Emergency payload) layer = codes "order" ∷ codes "emergency" ∷ decimal layer ∷ []
order_words (act.NewKey kind) layer = codes "order" ∷ codes "newkey" ∷ decimal layer ∷ kind_word kind ∷ []

-- the line gives this target
abbrev pub SaysTarget : List ℕ → Target → Type 0
SaysTarget line (target.Serial serial) =
    (length serial ≡ 16) × EndsInHex line (codes "target" ∷ codes "serial" ∷ []) serial
SaysTarget line (target.Length length_named) =
    (length_named ≤ number_limit) × (line ≡ spaced_words (codes "target" ∷ codes "length" ∷ decimal length_named ∷ []))
SaysTarget line (target.Owner layer hash) =
    IsTrue (is_layer_number layer) × (length hash ≡ 32)
    × EndsInHex line (codes "target" ∷ codes "owner" ∷ decimal layer ∷ []) hash
SaysTarget line (target.Code layer hash) =
    IsTrue (is_layer_number layer) × (length hash ≡ 32)
    × EndsInHex line (codes "target" ∷ codes "code" ∷ decimal layer ∷ []) hash

-- the line of one trust, for changes of layer 1 and of layer 2 alike
abbrev pub trust_line : Trust → List ℕ
trust_line trust = spaced_words (codes "trust" ∷ trust_word trust ∷ [])

-- the line of two trusts: for changes of layer 1, and for changes of layer 2
abbrev pub trusts_line : Trusts → List ℕ
trusts_line trusts = spaced_words (codes "trust" ∷ trust_word trusts.one ∷ trust_word trusts.two ∷ [])

-- The line gives these trusts, by two words or, if they are equal, by one. Two equal words are allowed too. A draft has
-- no single spelling anyhow, since its digits may be of either case; what counts is that its lines stand for at most
-- one order.
abbrev pub SaysTrusts : List ℕ → Trusts → Type 0
SaysTrusts line trusts =
    (line ≡ trusts_line trusts) ⊎ ((line ≡ trust_line trusts.one) × (trusts ≡ equal_trusts trusts.one))

-- the line of a version
abbrev pub version_line : ℕ → List ℕ
version_line version = spaced_words (codes "version" ∷ decimal version ∷ [])

-- the lines of a load: its version, the trusts that it gives the layer, and its code
pub record AreLoadLines (lines : List (List ℕ)) (payload : Payload) : Type 0 where
  pub code_line : List ℕ
  pub coded : EndsInHex code_line (codes "code" ∷ []) payload.code
  pub code_fits : length payload.code ≤ CODE_LIMIT
  pub version_fits : payload.version ≤ number_limit
  pub line_of_trusts : List ℕ
  pub trusted : SaysTrusts line_of_trusts payload.trust
  pub spelled : lines ≡ version_line payload.version ∷ line_of_trusts ∷ code_line ∷ []

-- the lines of an establish: the new owner's public key, and the trusts that it gives the layer
pub record AreOwnerLines (lines : List (List ℕ)) (owner : PublicKey) (trust : Trusts) : Type 0 where
  pub owner_line : List ℕ
  pub owned : EndsInHex owner_line (codes "owner" ∷ []) (key_bytes owner)
  pub sized : IsSized owner
  pub line_of_trusts : List ℕ
  pub trusted : SaysTrusts line_of_trusts trust
  pub spelled : lines ≡ owner_line ∷ line_of_trusts ∷ []

-- the lines after the targets say what goes with this act
abbrev pub SayAct : List (List ℕ) → Act → Type 0
SayAct lines (act.Establish owner trust) = AreOwnerLines lines owner trust
SayAct lines act.Surrender = lines ≡ []
SayAct lines (act.Load payload) = AreLoadLines lines payload
SayAct lines (act.Emergency payload) = AreLoadLines lines payload
SayAct lines (act.NewKey kind) = lines ≡ []

-- The lines are the draft of an order that nobody has signed yet: what is ordered for which layer, the targets, and
-- what goes with the order.
pub record IsDraft (lines : List (List ℕ)) (order : Order) : Type 0 where
  pub target_lines : List (List ℕ)
  pub act_lines : List (List ℕ)
  pub spelled : lines ≡ spaced_words (order_words order.act order.layer) ∷ target_lines ++ act_lines
  pub named : MayBeFor (kind_of order.act) order.layer
  pub targeted : AllZip SaysTarget target_lines order.targets
  pub few : length order.targets ≤ TARGET_LIMIT
  pub says_act : SayAct act_lines order.act
  pub unsigned : order.signature ≡ []
  pub alone : order.countersignatures ≡ []
