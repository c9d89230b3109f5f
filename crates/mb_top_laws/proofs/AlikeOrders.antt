-- Two ends of a command that shows orders or keys, or countersigns what was drafted, are alike.
use Rattle.std.proofs.Common.{◌≡◌, ◌⊎◌, ℕ, List, [], ◌∷◌, ◌++◌, inl, inr, sym, ◌∙◌, ap}
use Rattle.mb_format.proofs.Whole.{IsClearWhole-from_exact}
use Rattle.mb_model.specs.declared.key.PublicKey.{PublicKey}
use Rattle.mb_model.proofs.KeyFormatLaws.{public_key_exact}
use Rattle.mb_model_commands.specs.Cosign.{CosignNames, cosign}
use Rattle.mb_tools_orders.specs.ShowOrder.{ShowOrderNames, showorder}
use Rattle.mb_tools_orders.specs.Ordered.{OrderedNames, OrderSignature, signer_input, signatures_of, TellsIfVerified, AreVerified, ordered}
use Rattle.mb_tools_orders.specs.ShowKey.{ShowKeyNames, showkey}
use Rattle.mb_tools_hss.specs.ShowMaker.{ShowMakerNames, showmaker}
use Rattle.mb_top_laws.proofs.AlikeSteps.{IsReadOnce, Alike, alike_read, alike_found, alike_either, alike_print, alike_refuse}
use Rattle.mb_top_laws.proofs.InputsOnce.{binary_once, key_once, draft_once, order_once}
use Rattle.mb_top_laws.proofs.AlikeCommands.{sign_by_alike}
use Rattle.mb_top_laws.proofs.AlikeTools.{maker_once}

signer_once : (name : List ℕ) → IsReadOnce (signer_input name)
signer_once name = binary_once _ _ name (IsClearWhole-from_exact public_key_exact)

-- ---- signatures have one list of names

one_named : (key : PublicKey) (signed : OrderSignature) (a b : List (List ℕ)) → TellsIfVerified key signed a → TellsIfVerified key signed b → a ≡ b
one_named key signed a b (inl one) (inl other) = one.1 ∙ sym other.1
one_named key signed a b (inl one) (inr never) = absurd (never.0 one.0)
one_named key signed a b (inr never) (inl one) = absurd (never.0 one.0)
one_named key signed a b (inr one) (inr other) = one.1 ∙ sym other.1

one_naming : (key : PublicKey) (signatures : List OrderSignature) (a b : List (List ℕ)) → AreVerified key signatures a → AreVerified key signatures b → a ≡ b
one_naming key [] a b is also = is ∙ sym also
one_naming key (signed ∷ others) a b (first, later, split, named, are) (front, back, cut, told, too) =
    split ∙ ap (λ (l : List (List ℕ)). l ++ later) (one_named key signed first front named told)
    ∙ ap (λ (l : List (List ℕ)). front ++ l) (one_naming key others later back are too) ∙ sym cut

-- ---- the commands

pub cosign_alike : (names : CosignNames) → Alike (cosign names) (cosign names)
unfolding cosign
cosign_alike names = alike_read _ _ (key_once _) (λ bytes key are is. alike_read _ _ (order_once _) (λ text order are is.
    alike_read _ _ (draft_once _) (λ draft drafted are is. alike_either _ _ _ (λ not. alike_refuse _)
    (λ may. alike_either _ _ _ (λ same. sign_by_alike _ _ _ _) (λ differs. alike_refuse _)))))

pub showorder_alike : (names : ShowOrderNames) → Alike (showorder names) (showorder names)
unfolding showorder
showorder_alike names = alike_read _ _ (order_once _) (λ text order are is. alike_print _)

pub ordered_alike : (names : OrderedNames) → Alike (ordered names) (ordered names)
unfolding ordered
ordered_alike names = alike_read _ _ (signer_once _) (λ bytes key are is. alike_read _ _ (order_once _) (λ text order are is.
    alike_found _ _ (λ a b one other. one_naming key (signatures_of order) a b one other) (λ lines named. alike_either _ _ _ (λ none. alike_refuse _) (λ some. alike_print _))))

pub showkey_alike : (names : ShowKeyNames) → Alike (showkey names) (showkey names)
unfolding showkey
showkey_alike names = alike_read _ _ (key_once _) (λ bytes key are is. alike_print _)

pub showmaker_alike : (names : ShowMakerNames) → Alike (showmaker names) (showmaker names)
unfolding showmaker
showmaker_alike names = alike_read _ _ (maker_once _) (λ bytes maker are is. alike_print _)
