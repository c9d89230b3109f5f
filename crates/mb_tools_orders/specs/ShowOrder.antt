-- What the command `showorder` does. Does an officer see all that an order says, and of which bytes its signatures are?
use Rattle.std.specs.Prelude.{ℕ, List, [], ◌∷◌, ◌++◌, length, map, codes, Some}
use Rattle.std.specs.Fmt.{decimal}
use Rattle.sha2.specs.Sha256.{sha256}
use Rattle.mb_model.specs.declared.key.PublicKey.{PublicKey}
use Rattle.mb_model.specs.declared.layer.Trusts.{Trusts}
use Rattle.mb_model.specs.declared.order.Payload.{Payload}
use Rattle.mb_model.specs.declared.order.Act.{Act}
use Rattle.mb_model.specs.declared.order.Act.TheVariants as act
use Rattle.mb_model.specs.declared.order.Target.{Target}
use Rattle.mb_model.specs.declared.order.Target.TheVariants as target
use Rattle.mb_model.specs.declared.order.Countersignature.{Countersignature}
use Rattle.mb_model.specs.declared.order.Order.{Order}
use Rattle.mb_model.specs.records.OrderFormat.{order_body}
use Rattle.mb_model.specs.chains.Lines.{spaced_words, hex_word, text_of}
use Rattle.mb_model.specs.chains.Drafts.{order_words, version_line}
use Rattle.mb_model.specs.chains.Listing.{owner_word, trust_words, number_line}
use Rattle.mb_model_commands.specs.Commands.{Command, read, print}
use Rattle.mb_model_commands.specs.Inputs.{order_input}

-- the name of the file
pub record ShowOrderNames : Type 0 where
  pub order : List ℕ

-- ---- the body, as a draft has it but for two hashes

-- the line of a target
abbrev pub target_line : Target → List ℕ
target_line (target.Serial serial) = spaced_words (codes "target" ∷ codes "serial" ∷ hex_word serial ∷ [])
target_line (target.Length entries) = spaced_words (codes "target" ∷ codes "length" ∷ decimal entries ∷ [])
target_line (target.Owner layer hash) =
    spaced_words (codes "target" ∷ codes "owner" ∷ decimal layer ∷ hex_word hash ∷ [])
target_line (target.Code layer hash) =
    spaced_words (codes "target" ∷ codes "code" ∷ decimal layer ∷ hex_word hash ∷ [])

-- the line of a new owner: the hash of its public key
abbrev pub owner_line : PublicKey → List ℕ
owner_line owner = spaced_words (codes "owner" ∷ owner_word (Some owner) ∷ [])

-- the line of the trusts that an order gives its layer: one word if they are equal, else both
abbrev pub given_trusts_line : Trusts → List ℕ
given_trusts_line trusts = spaced_words (codes "trust" ∷ trust_words trusts)

-- the line of code: its hash, and how many bytes it has
abbrev pub code_line : List ℕ → List ℕ
code_line code = spaced_words (codes "code" ∷ hex_word (sha256 code) ∷ decimal (length code) ∷ [])

-- the lines of a load
abbrev pub load_lines : Payload → List (List ℕ)
load_lines payload =
    version_line payload.version ∷ given_trusts_line payload.trust ∷ code_line payload.code ∷ []

-- the lines of what goes with an act
abbrev pub act_lines : Act → List (List ℕ)
act_lines (act.Establish owner trust) = owner_line owner ∷ given_trusts_line trust ∷ []
act_lines act.Surrender = []
act_lines (act.Load payload) = load_lines payload
act_lines (act.Emergency payload) = load_lines payload
act_lines (act.NewKey kind) = []

-- ---- the signatures

-- the line of the hash of the body, which each signature covers
abbrev pub body_line : Order → List ℕ
body_line order = spaced_words (codes "body" ∷ hex_word (sha256 (order_body order)) ∷ [])

-- the line of a countersignature: its layer, and how many bytes it has
abbrev pub countersignature_line : Countersignature → List ℕ
countersignature_line by =
    spaced_words (codes "countersignature" ∷ decimal by.layer ∷ decimal (length by.signature) ∷ [])

-- the lines of the signatures: how many bytes that of the owner in charge has, and each countersignature
abbrev pub signature_lines : Order → List (List ℕ)
signature_lines order =
    number_line (codes "signature") (length order.signature) ∷ map countersignature_line order.countersignatures

-- ---- the command

-- What an order says, line by line: what is ordered for which layer, the targets, what goes with the act, the hash of
-- the body, and the signatures, which are not verified.
unfoldable pub order_shown : Order → List (List ℕ)
order_shown order =
    spaced_words (order_words order.act order.layer) ∷ map target_line order.targets ++ act_lines order.act
    ++ body_line order ∷ signature_lines order

-- the order is read, and its lines are printed
unfoldable pub showorder : ShowOrderNames → Command
showorder names = read (order_input names.order) (λ order. print (text_of (order_shown order)))
