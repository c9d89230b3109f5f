-- When entries, and entries with their signatures, are the same by the tests that are derived for them.
use Rattle.std.proofs.Common.{◌≡◌, true≢false, Option, None, Some, unwrap_or, Decides, refl, sym, ap, rules}
use Rattle.std.specs.Option.{option_eq}
use Rattle.std.proofs.lemmas.Bool.Decides.{Decides-and, Decides-eqb}
use Rattle.std.proofs.lemmas.Slice.Eq.{bytes_eq-Decides}
use denote.Enum.Bare.{same_true, true_same}
use Rattle.mb_model.specs.declared.key.PublicKey.{PublicKey}
use Rattle.mb_model.specs.declared.layer.Pair.{Pair}
use Rattle.mb_model.specs.declared.entry.Entry.{Entry}
use Rattle.mb_model.specs.declared.entry.Entry.TheVariants.{Birth, Change, NewKey, Succession}
use Rattle.mb_model.specs.declared.entry.SignedEntry.{SignedEntry}
use Rattle.mb_model.specs.declared.region.RegionKey.{RegionKey}
use Rattle.mb_model.specs.contracts.order.ChangeKind as change_kind
use Rattle.mb_model.specs.contracts.order.KeyKind as key_kind
use Rattle.mb_model.specs.contracts.key.PublicKeyPartialEq.TheImpl as key
use Rattle.mb_model.specs.contracts.layer.PairPartialEq.TheImpl as pair
use Rattle.mb_model.specs.contracts.entry.EntryPartialEq.TheImpl as entry
use Rattle.mb_model.specs.contracts.entry.SignedEntryPartialEq.TheImpl as signed
use Rattle.mb_model.specs.contracts.region.RegionKeyPartialEq.TheImpl as region_key
use Rattle.mb_model_lemmas.proofs.SameLayers.{layers_decide, keys_decide}

pairs_decide : (a b : Pair) → Decides (pair.ghosts.eq a b) (a ≡ b)
pairs_decide a b = search rules

next_keys_decide : (a b : Option PublicKey) → Decides (option_eq key.ghosts.eq a b) (a ≡ b)
next_keys_decide None None = (λ on. refl, λ is. refl)
next_keys_decide None (Some b) = (λ on. absurd (true≢false (sym on)), λ is. absurd (let no : None ≡ Some b = is in cc))
next_keys_decide (Some a) None = (λ on. absurd (true≢false (sym on)), λ is. absurd (let no : Some a ≡ None = is in cc))
next_keys_decide (Some a) (Some b) = (λ on. ap Some ((keys_decide a b).0 on), λ is. (keys_decide a b).1 (ap (λ o. unwrap_or o a) is))

entries_decide : (a b : Entry) → Decides (entry.ghosts.eq a b) (a ≡ b)
entries_decide (Birth v s j l) (Birth w t k m) =
    let parts = Decides-and _ _ (Decides-eqb v w) (Decides-and _ _ (bytes_eq-Decides s t) (Decides-and _ _ (keys_decide j k) (layers_decide l m))) in
    (λ yes. let p = parts.0 yes in cc, λ is. parts.1 ((cc), ((cc), ((cc), (cc)))))
entries_decide (Change v p n k l c ls kept next) (Change v' p' n' k' l' c' ls' kept' next') =
    let parts = Decides-and _ _ (Decides-eqb v v') (Decides-and _ _ (Decides-eqb p p') (Decides-and _ _ (Decides-eqb n n')
    (Decides-and _ _ (same_true change_kind.the_type tt k k', true_same change_kind.the_type k k') (Decides-and _ _ (Decides-eqb l l')
    (Decides-and _ _ (pairs_decide c c') (Decides-and _ _ (layers_decide ls ls') (Decides-and _ _ (pairs_decide kept kept') (next_keys_decide next next')))))))) in
    (λ yes. let q = parts.0 yes in cc, λ is. parts.1 ((cc), ((cc), ((cc), ((cc), ((cc), ((cc), ((cc), ((cc), (cc))))))))))
entries_decide (NewKey p n m l kind j) (NewKey p' n' m' l' kind' j') =
    let parts = Decides-and _ _ (Decides-eqb p p') (Decides-and _ _ (Decides-eqb n n') (Decides-and _ _ (Decides-eqb m m')
    (Decides-and _ _ (Decides-eqb l l') (Decides-and _ _ (same_true key_kind.the_type tt kind kind', true_same key_kind.the_type kind kind') (keys_decide j j'))))) in
    (λ yes. let q = parts.0 yes in cc, λ is. parts.1 ((cc), ((cc), ((cc), ((cc), ((cc), (cc)))))))
entries_decide (Succession p j) (Succession q k) =
    let parts = Decides-and _ _ (Decides-eqb p q) (keys_decide j k) in
    (λ yes. let r = parts.0 yes in cc, λ is. parts.1 ((cc), (cc)))
entries_decide _ _ = (λ on. absurd (true≢false (sym on)), λ is. cc)

pub signed_entries_decide : (a b : SignedEntry) → Decides (signed.ghosts.eq a b) (a ≡ b)
signed_entries_decide a b =
    let parts = Decides-and _ _ (entries_decide a.entry b.entry) (bytes_eq-Decides a.signature b.signature) in
    (λ yes. let p = parts.0 yes in search (rules, p), λ is. parts.1 (ap (λ (s : SignedEntry). s.entry) is, ap (λ (s : SignedEntry). s.signature) is))

pub region_keys_decide : (a b : RegionKey) → Decides (region_key.ghosts.eq a b) (a ≡ b)
region_keys_decide a b = search rules
