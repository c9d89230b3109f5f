-- What the command `ordered` does. Does it name exactly the signatures of an order that verify under a key?
use Rattle.std.specs.Prelude.{◌≡◌, ◌⊎◌, ℕ, List, [], ◌∷◌, ◌++◌, map, codes, Some}
use Rattle.mb_model.specs.declared.key.PublicKey.{PublicKey}
use Rattle.mb_model.specs.declared.order.Countersignature.{Countersignature}
use Rattle.mb_model.specs.declared.order.Order.{Order}
use Rattle.mb_model.specs.records.KeyFormat.{public_key_format}
use Rattle.mb_model.specs.records.OrderFormat.{order_body}
use Rattle.mb_model.specs.machine.SignedTexts.{order_text, countersigned_text, IsSignedBy}
use Rattle.mb_model.specs.chains.Lines.{text_of}
use Rattle.mb_model.specs.chains.Listing.{number_line}
use Rattle.mb_model_commands.specs.declared.role.Role.TheVariants as role
use Rattle.mb_model_commands.specs.Commands.{Input, Command, read, find, either_command, print, refuse}
use Rattle.mb_model_commands.specs.Inputs.{binary_input, order_input}

-- the names of the files
pub record OrderedNames : Type 0 where
  pub public : List ℕ
  pub order : List ℕ

-- the public key of whoever may have signed
abbrev pub signer_input : List ℕ → Input PublicKey
signer_input name = binary_input role.Public public_key_format name

-- ---- the signatures of an order

-- a signature of an order: the line that names it, the text that it has to be of, and its bytes
pub record OrderSignature : Type 0 where
  pub line : List ℕ
  pub text : List ℕ
  pub signature : List ℕ

-- the signature of the owner in charge, over this body
abbrev pub signed_in_charge : List ℕ → List ℕ → OrderSignature
signed_in_charge body signature =
    record { line = codes "in charge"; text = order_text body; signature = signature }

-- the signature of the owner of a layer above, over this body
abbrev pub signed_above : List ℕ → Countersignature → OrderSignature
signed_above body by = record {
  line = number_line (codes "layer") by.layer;
  text = countersigned_text by.layer body;
  signature = by.signature;
}

-- all signatures of an order, that of the owner in charge first, then the others in ascending order of layers
abbrev pub signatures_of : Order → List OrderSignature
signatures_of order =
    signed_in_charge (order_body order) order.signature
    ∷ map (signed_above (order_body order)) order.countersignatures

-- ---- which verify

-- the line of the signature if it verifies under the key, else no line
abbrev pub TellsIfVerified : PublicKey → OrderSignature → List (List ℕ) → Type 0
TellsIfVerified key signed lines =
    (IsSignedBy (Some key) signed.text signed.signature × (lines ≡ signed.line ∷ []))
    ⊎ ((IsSignedBy (Some key) signed.text signed.signature → ⊥) × (lines ≡ []))

-- the lines of those signatures that verify under the key, in their order
abbrev pub AreVerified : PublicKey → List OrderSignature → List (List ℕ) → Type 0
AreVerified key [] lines = lines ≡ []
AreVerified key (signed ∷ others) lines =
    (first later : List (List ℕ)) × (lines ≡ first ++ later)
    × TellsIfVerified key signed first × AreVerified key others later

-- ---- the command

-- The key and the order are read, and the signatures that verify under the key are named; refused if none does.
unfoldable pub ordered : OrderedNames → Command
ordered names =
    read (signer_input names.public) (λ key.
    read (order_input names.order) (λ order.
    find (AreVerified key (signatures_of order)) (λ lines.
    either_command (lines ≡ []) (refuse (codes "refused 29")) (print (text_of lines)))))
