-- Sectors and areas as they are written, one after the other.
use Rattle.std.proofs.Common.{◌≡◌, ℕ, ◌+◌, ◌-◌, ◌*◌, ◌<◌, ◌≤◌, List, [], ◌++◌, length, take, drop, get_or, Result, sym, ap, subst, ◌∙◌, arith, append-nil}
use Rattle.std.specs.Global.{Vec}
use Rattle.std.specs.Vec.{vec_len}
use Rattle.std.proofs.lemmas.List.{take_all, take_more, take-append-drop}
use Rattle.mb_model.specs.declared.entry.SignedEntry.{SignedEntry}
use Rattle.mb_model.specs.outside.Board.{erased_bytes}
use Rattle.mb_model.specs.memories.WrittenFlash.{in_sectors, entry_in_log, sectors_of}
use Rattle.mb_model_lemmas.proofs.WrittenLemmas.{sectors_split}
use Rattle.mb_bytes.specs.Puts.{Appends, StopsShort, Puts}
use Rattle.mb_bytes.proofs.Putting.{item_at, puts_then, puts_stop, puts_stop_later, puts_both}

-- bytes in sectors, and erased bytes up to the end of these
pub padded : {E : Type 0} (n : ℕ) (bytes : List ℕ) (old middle new : Vec ℕ) (result : Result (Unit {0}) E) (count : ℕ) → Appends bytes old middle → count ≡ 4096 * n - (vec_len middle - vec_len old)
    → Puts (erased_bytes count) middle result new → Puts (in_sectors n bytes) old result new
unfolding in_sectors
padded n bytes old middle new result count put is more =
    let same : count ≡ 4096 * n - length bytes = omega (arith, is, put.len) in
    puts_both (erased_bytes (4096 * n - length bytes)) new result put (subst (λ (k : ℕ). Puts (erased_bytes k) middle result new) same more)

-- ---- the sectors of a log

-- the first entries of a log, in their sectors
abbrev pub AppendsFirst : List SignedEntry → ℕ → Vec ℕ → Vec ℕ → Type 0
AppendsFirst log i old now = Appends (sectors_of (take i log)) old now

first_more : (log : List SignedEntry) (i : ℕ) (any : SignedEntry) → i < length log → sectors_of (take (i + 1) log) ≡ sectors_of (take i log) ++ in_sectors 1 (entry_in_log (get_or log i any))
unfolding sectors_of
first_more log i any below =
    ap sectors_of (take_more log i any below)
    ∙ sectors_split (take i log) (get_or log i any) []
    ∙ ap (λ (last : List ℕ). sectors_of (take i log) ++ last) (append-nil (in_sectors 1 (entry_in_log (get_or log i any))))

pub one_more_entry : (log : List SignedEntry) (i : ℕ) (any : SignedEntry) (old middle new : Vec ℕ) → i < length log
    → AppendsFirst log i old middle → Appends (in_sectors 1 (entry_in_log (get_or log i any))) middle new → AppendsFirst log (i + 1) old new
one_more_entry log i any old middle new below front own = subst (λ (bytes : List ℕ). Appends bytes old new) (sym (first_more log i any below)) (puts_then front own)

-- no room for one of them is no room for all
pub no_more_entry : (log : List SignedEntry) (i : ℕ) (any : SignedEntry) (old middle new : Vec ℕ) → i < length log
    → AppendsFirst log i old middle → StopsShort (in_sectors 1 (entry_in_log (get_or log i any))) middle new → StopsShort (sectors_of log) old new
no_more_entry log i any old middle new below front own =
    let rest : List SignedEntry = drop (i + 1) log in
    let whole : sectors_of log ≡ sectors_of (take i log) ++ (in_sectors 1 (entry_in_log (get_or log i any)) ++ sectors_of rest) =
    ap sectors_of (sym (take-append-drop i log) ∙ ap (λ (next : List SignedEntry). take i log ++ next) (item_at log i any below)) ∙ sectors_split (take i log) (get_or log i any) rest in
    subst (λ (bytes : List ℕ). StopsShort bytes old new) (sym whole) (puts_stop_later front (puts_stop (sectors_of rest) own))

pub all_entries : (log : List SignedEntry) (i : ℕ) (old now : Vec ℕ) → length log ≤ i → AppendsFirst log i old now → Appends (sectors_of log) old now
all_entries log i old now all front = subst (λ (entries : List SignedEntry). Appends (sectors_of entries) old now) (take_all i log all) front

pub no_entries : (log : List SignedEntry) (old : Vec ℕ) → AppendsFirst log 0 old old
unfolding sectors_of
no_entries log old = record { items = sym (append-nil old.items); len = omega arith; capacity = omega arith }
