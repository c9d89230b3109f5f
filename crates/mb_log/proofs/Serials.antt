-- The serial that a log names, after one more entry.
use Rattle.std.proofs.Common.{◌≡◌, ◌<◌, ◌+◌, ℕ, List, [], length, take, get_or, Option, None, refl, sym, ap, ◌∙◌}
use Rattle.std.specs.Option.{option_or}
use Rattle.mb_model.specs.declared.entry.SignedEntry.{SignedEntry}
use Rattle.mb_model.specs.owners.Log.{entries_of, last_of, serial_in, serial_of}
use Rattle.mb_model_lemmas.proofs.LogLemmas.{entries_more, serial_of-push}

pub serial_none : serial_of [] ≡ None
unfolding serial_of last_of
serial_none = refl

pub serial_more : (log : List SignedEntry) (i : ℕ) (d : SignedEntry) (serial : Option (List ℕ)) → i < length log
    → serial ≡ serial_of (entries_of (take i log)) → option_or (serial_in (get_or log i d).entry) serial ≡ serial_of (entries_of (take (i + 1) log))
serial_more log i d serial within was =
    ap (option_or (serial_in (get_or log i d).entry)) was
    ∙ sym (serial_of-push (entries_of (take i log)) (get_or log i d).entry)
    ∙ ap serial_of (sym (entries_more log i d within))
