-- When layers, and configurations, are the same by the tests that are derived for them.
use Rattle.std.proofs.Common.{◌≡◌, Bool, true≢false, Option, None, Some, unwrap_or, Decides, refl, sym, ap, rules}
use Rattle.std.specs.Cmp.{booleans_Decides}
use Rattle.std.specs.Option.{option_eq}
use Rattle.std.proofs.lemmas.Bool.Decides.{Decides-and, Decides-eqb}
use Rattle.std.proofs.lemmas.Slice.Eq.{bytes_eq-Decides}
use denote.Enum.Bare.{same_true, true_same}
use Rattle.mb_model.specs.declared.key.PublicKey.{PublicKey}
use Rattle.mb_model.specs.declared.layer.CodeName.{CodeName}
use Rattle.mb_model.specs.declared.layer.Layer.{Layer}
use Rattle.mb_model.specs.declared.layer.Layers.{Layers}
use Rattle.mb_model.specs.declared.layer.Trusts.{Trusts}
use Rattle.mb_model.specs.declared.state.Configuration.{Configuration}
use Rattle.mb_model.specs.contracts.key.Tree as tree
use Rattle.mb_model.specs.contracts.key.Chains as chains
use Rattle.mb_model.specs.contracts.key.Trust as trust
use Rattle.mb_model.specs.contracts.key.PublicKeyPartialEq.TheImpl as key
use Rattle.mb_model.specs.contracts.layer.CodeNamePartialEq.TheImpl as name
use Rattle.mb_model.specs.contracts.layer.TrustsPartialEq.TheImpl as trusts
use Rattle.mb_model.specs.contracts.layer.LayerPartialEq.TheImpl as layer
use Rattle.mb_model.specs.contracts.layer.LayersPartialEq.TheImpl as layers
use Rattle.mb_model.specs.contracts.state.ConfigurationPartialEq.TheImpl as configuration

module _ {X : Type 0} (same : X → X → Bool) (decides : (a b : X) → Decides (same a b) (a ≡ b)) where
  options_decide : (a b : Option X) → Decides (option_eq same a b) (a ≡ b)
  options_decide None None = (λ on. refl, λ is. refl)
  options_decide None (Some b) = (λ on. absurd (true≢false (sym on)), λ is. absurd (let no : None ≡ Some b = is in cc))
  options_decide (Some a) None = (λ on. absurd (true≢false (sym on)), λ is. absurd (let no : Some a ≡ None = is in cc))
  options_decide (Some a) (Some b) = (λ on. ap Some ((decides a b).0 on), λ is. (decides a b).1 (ap (λ o. unwrap_or o a) is))

pub keys_decide : (a b : PublicKey) → Decides (key.ghosts.eq a b) (a ≡ b)
keys_decide a b =
    let parts = Decides-and _ _ (same_true tree.the_type tt a.tree b.tree, true_same tree.the_type a.tree b.tree)
    (Decides-and _ _ (same_true chains.the_type tt a.chains b.chains, true_same chains.the_type a.chains b.chains)
    (Decides-and _ _ (bytes_eq-Decides a.identifier b.identifier) (bytes_eq-Decides a.root b.root))) in (
      λ yes. let p = parts.0 yes in search (rules, p),
      λ is. parts.1 (ap (λ (k : PublicKey). k.tree) is, (ap (λ (k : PublicKey). k.chains) is, (ap (λ (k : PublicKey). k.identifier) is, ap (λ (k : PublicKey). k.root) is))),
    )

names_decide : (a b : CodeName) → Decides (name.ghosts.eq a b) (a ≡ b)
names_decide a b =
    let parts = Decides-and _ _ (bytes_eq-Decides a.hash b.hash) (Decides-eqb a.version b.version) in
    (λ yes. let p = parts.0 yes in search (rules, p), λ is. parts.1 (ap (λ (n : CodeName). n.hash) is, ap (λ (n : CodeName). n.version) is))

trusts_decide : (a b : Trusts) → Decides (trusts.ghosts.eq a b) (a ≡ b)
trusts_decide a b =
    let parts = Decides-and _ _ (same_true trust.the_type tt a.one b.one, true_same trust.the_type a.one b.one)
    (same_true trust.the_type tt a.two b.two, true_same trust.the_type a.two b.two) in
    (λ yes. let p = parts.0 yes in search (rules, p), λ is. parts.1 (ap (λ (t : Trusts). t.one) is, ap (λ (t : Trusts). t.two) is))

layer_decides : (a b : Layer) → Decides (layer.ghosts.eq a b) (a ≡ b)
layer_decides a b =
    let parts = Decides-and _ _ (options_decide key.ghosts.eq keys_decide a.owner b.owner)
    (Decides-and _ _ (options_decide name.ghosts.eq names_decide a.code b.code)
    (Decides-and _ _ (booleans_Decides a.reliable b.reliable) (trusts_decide a.trust b.trust))) in (
      λ yes. let p = parts.0 yes in search (rules, p),
      λ is. parts.1 (ap (λ (l : Layer). l.owner) is, (ap (λ (l : Layer). l.code) is, (ap (λ (l : Layer). l.reliable) is, ap (λ (l : Layer). l.trust) is))),
    )

pub layers_decide : (a b : Layers) → Decides (layers.ghosts.eq a b) (a ≡ b)
layers_decide a b =
    let parts = Decides-and _ _ (layer_decides a.one b.one) (Decides-and _ _ (layer_decides a.two b.two) (layer_decides a.three b.three)) in
    (λ yes. let p = parts.0 yes in search (rules, p), λ is. parts.1 (ap (λ (l : Layers). l.one) is, (ap (λ (l : Layers). l.two) is, ap (λ (l : Layers). l.three) is)))

pub configurations_decide : (a b : Configuration) → Decides (configuration.ghosts.eq a b) (a ≡ b)
configurations_decide a b =
    let parts = Decides-and _ _ (Decides-eqb a.number b.number) (Decides-and _ _ (Decides-eqb a.upto b.upto) (layers_decide a.layers b.layers)) in (
      λ yes. let p = parts.0 yes in search (rules, p),
      λ is. parts.1 (ap (λ (c : Configuration). c.number) is, (ap (λ (c : Configuration). c.upto) is, ap (λ (c : Configuration). c.layers) is)),
    )
