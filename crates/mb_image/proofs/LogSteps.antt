-- One more entry of a log.
use Rattle.std.proofs.Common.{◌≡◌, ◌<◌, ◌+◌, ℕ, List, ◌++◌, length, take, get_or, sym, ap, ◌∙◌}
use Rattle.std.specs.Prelude.{filter}
use Rattle.mb_model_lemmas.proofs.LogLemmas.{entries_more}
use Rattle.mb_model.specs.declared.entry.Entry.{Entry}
use Rattle.mb_model.specs.declared.entry.SignedEntry.{SignedEntry}
use Rattle.mb_model.specs.owners.Log.{entries_of}
use Rattle.mb_model.specs.owners.Lives.{alive_keys}
use Rattle.mb_model_lemmas.specs.AliveLaws.{goes_on, made_by}
use Rattle.mb_model_lemmas.proofs.AliveLemmas.{alive_keys-push}
use Rattle.mb_model_lemmas.proofs.ValidRegions.{filter-map}
use Rattle.mb_image.specs.declared.alive.MadeKey.{MadeKey}
use Rattle.mb_image.specs.Keys.{as_listed, listed_keys}

-- the keys that are left
pub listed-filter : (L : ℕ) (entry : Entry) (keys kept : List MadeKey) → kept ≡ filter (λ made. goes_on L entry (as_listed made)) keys
    → listed_keys kept ≡ filter (goes_on L entry) (listed_keys keys)
listed-filter L entry keys kept is = ap listed_keys is ∙ sym (filter-map (goes_on L entry) as_listed keys)

-- the keys after one more entry
pub alive_more : (log : List SignedEntry) (i L : ℕ) (d : SignedEntry) (before after : List MadeKey) → i < length log
    → listed_keys before ≡ alive_keys (entries_of (take i log)) L
    → listed_keys after ≡ filter (goes_on L (get_or log i d).entry) (listed_keys before) ++ made_by L (get_or log i d).entry
    → listed_keys after ≡ alive_keys (entries_of (take (i + 1) log)) L
alive_more log i L d before after within was is =
    let entry : Entry = (get_or log i d).entry in
    is
    ∙ ap (λ keys. filter (goes_on L entry) keys ++ made_by L entry) was
    ∙ sym (alive_keys-push (entries_of (take i log)) entry L)
    ∙ ap (λ es. alive_keys es L) (sym (entries_more log i d within))
