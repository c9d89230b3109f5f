-- Two ends of one command that nothing disturbed are alike, if each step of the command leaves no choice.
use Rattle.std.proofs.Common.{◌≡◌, ◌≢◌, ℕ, ◌<◌, ◌≤◌, ◌⊎◌, Bool, true, false, true≢false, if◌then◌else◌, List, ◌++◌, codes, length, Option, Some, None, refl, sym, ◌∙◌, ap, subst, inl, inr, arith}
use Rattle.std.proofs.Math.Path.{fun_ext}
use Rattle.mb_format.specs.Format.{IsBytes}
use Rattle.mb_format.specs.Combinators.{same_bytes}
use Rattle.mb_format.proofs.Fields.{same_bytes-refl, same_bytes-true}
use Rattle.mb_model.specs.declared.limits.TheConstants.{FILE_LIMIT}
use Rattle.mb_model.specs.outside.Texts.{line_with_lf}
use Rattle.mb_model_commands.specs.declared.role.Place.{Place}
use Rattle.mb_model_commands.specs.Outside.{Outside, HasRisen, read_once, by_fault, by_absence, WritesFile, Prints}
use Rattle.mb_model_commands.specs.Commands.{Input, Output, Command, read, find, either_command, write, print, refuse, lack, Past, Ended, SaysLine, Stops, WantsMemory, HasRead, InputEnds, input_is_too_long, input_is_faulty, input_is_not_read, memory_lacks, WriteEnds, PrintEnds, text_is_printed, text_is_not_printed, CommandEnds, IsFaultless, end_seen_from, at_first, input_line, role_word, place_words}
use Rattle.mb_model_histories.specs.KeyFileLaws.{Files}
use Rattle.mb_top_laws.specs.EndLaws.{ShowsAll, EndsUndisturbed, AreAlike}
use Rattle.mb_console.proofs.Completing.{raised_rises, says_reads, says_writes}

-- ---- what is seen

-- a command has ended so from one of its steps on, and nothing disturbed it
pub record Goes (does : Command) (past : Past) (files : Files) (printed : List ℕ) (e : Ended) : Type 0 where
  pub ends : CommandEnds does past e
  pub shown : ShowsAll e.before files printed
  pub faultless : IsFaultless e.before e.after
  pub found : e.status ≢ 6

-- the ends are alike, and the board was used in the same way
pub record AreSame (e f : Ended) : Type 0 where
  pub used : e.used ≡ f.used
  pub status : e.status ≡ f.status
  pub files : Files
  pub printed : List ℕ
  pub shown : ShowsAll e.after files printed
  pub also : ShowsAll f.after files printed

-- any two such ends of these two commands are the same
abbrev pub Alike : Command → Command → Type 0
Alike one other = (past : Past) (files : Files) (printed : List ℕ) (e f : Ended)
    → Goes one past files printed e → Goes other past files printed f → AreSame e f

-- the file that was read is the one that is shown
pub held_is : (outside : Outside) (files : Files) (printed name bytes : List ℕ) → ShowsAll outside files printed → HasRead outside name bytes → files name ≡ Some bytes
held_is outside files printed name bytes shown has = has.held files shown.files_are

-- ---- a line

prints_shown : (text : List ℕ) (before after : Outside) (files : Files) (printed : List ℕ) → ShowsAll before files printed → Prints text before after → ShowsAll after files (printed ++ text)
prints_shown text before after files printed shown prints = record {
  files_are = ap (λ (o : Outside). o.files) prints.stays ∙ shown.files_are;
  printed_is = prints.adds printed shown.printed_is;
}

pub says_shown : (line : List ℕ) (before after : Outside) (files : Files) (printed : List ℕ) → ShowsAll before files printed → (HasRisen before.write_faults after.write_faults → ⊥)
    → SaysLine line before after → ShowsAll after files (printed ++ line_with_lf line)
says_shown line before after files printed shown well (inl prints) = prints_shown (line_with_lf line) before after files printed shown prints
says_shown line before after files printed shown well (inr fails) =
    absurd (well (subst (λ (n : ℕ). HasRisen before.write_faults n) (sym (ap (λ (o : Outside). o.write_faults) fails.stays)) (raised_rises before.write_faults)))

-- the line was printed whole, and the command ended with the status
record HasSaid (line : List ℕ) (status : ℕ) (past : Past) (files : Files) (printed : List ℕ) (e : Ended) : Type 0 where
  used_is : e.used ≡ past.used
  after : ShowsAll e.after files (printed ++ line_with_lf line)
  status_is : e.status ≡ status

stops_said : (line : List ℕ) (status : ℕ) (past : Past) (files : Files) (printed : List ℕ) (mid : Outside) (e : Ended) → ShowsAll mid files printed
    → mid.write_faults ≡ e.before.write_faults → IsFaultless e.before e.after → Stops line status past (end_seen_from mid e) → HasSaid line status past files printed e
stops_said line status past files printed mid e shown same well stops = record {
  used_is = stops.used;
  after = says_shown line mid e.after files printed shown (λ rose. well.write (subst (λ (n : ℕ). HasRisen n e.after.write_faults) same rose)) stops.says;
  status_is = stops.status_is;
}

both_said : (line text : List ℕ) (status code : ℕ) (past : Past) (files : Files) (printed : List ℕ) (e f : Ended) → line ≡ text → status ≡ code
    → HasSaid line status past files printed e → HasSaid text code past files printed f → AreSame e f
both_said line text status code past files printed e f same equal said also = record {
  used = said.used_is ∙ sym also.used_is;
  status = said.status_is ∙ equal ∙ sym also.status_is;
  files = files;
  printed = printed ++ line_with_lf text;
  shown = subst (λ (l : List ℕ). ShowsAll e.after files (printed ++ line_with_lf l)) same said.after;
  also = also.after;
}

never_wants : (past : Past) (mid : Outside) (e : Ended) → e.status ≢ 6 → WantsMemory past (end_seen_from mid e) → ⊥
never_wants past mid e found wants = found wants.stops.status_is

-- ---- an input

-- an input has one value, or is at fault at one place
pub record IsReadOnce {A : Type 0} (input : Input A) : Type 0 where
  pub one_value : (bytes : List ℕ) (a b : A) → IsBytes bytes → input.Is bytes a → input.Is bytes b → a ≡ b
  pub one_place : (bytes : List ℕ) (p q : Place) → IsBytes bytes → input.FaultyAt bytes p → input.FaultyAt bytes q → p ≡ q
  pub never_both : (bytes : List ℕ) (value : A) (place : Place) → IsBytes bytes → input.Is bytes value → input.FaultyAt bytes place → ⊥

-- what ends a command at an input
data Ends {A : Type 0} (input : Input A) (past : Past) (files : Files) (printed : List ℕ) (e : Ended) : Type 0 where
  too_long : (bytes : List ℕ) → files input.name ≡ Some bytes → FILE_LIMIT < length bytes → HasSaid (input_line input.role (codes "too long")) 3 past files printed e
      → Ends input past files printed e
  faulty : (bytes : List ℕ) (place : Place) → files input.name ≡ Some bytes → length bytes ≤ FILE_LIMIT → IsBytes bytes → input.FaultyAt bytes place
      → HasSaid (input_line input.role (place_words place)) 3 past files printed e → Ends input past files printed e
  missing : files input.name ≡ None → HasSaid (codes "read failed " ++ role_word input.role) 4 past files printed e → Ends input past files printed e

read_shown : (before : Outside) (files : Files) (printed : List ℕ) → ShowsAll before files printed → ShowsAll (read_once before) files printed
read_shown before files printed shown = record { files_are = shown.files_are; printed_is = shown.printed_is }

input_ends : {A : Type 0} (input : Input A) (past : Past) (files : Files) (printed : List ℕ) (e : Ended) → ShowsAll e.before files printed → IsFaultless e.before e.after → e.status ≢ 6
    → InputEnds input past e → Ends input past files printed e
input_ends input past files printed e shown well found (input_is_too_long held stops) =
    let long = held files shown.files_are in
    too_long long.0 long.1 long.2 (stops_said _ 3 past files printed (read_once e.before) e (read_shown e.before files printed shown) refl well stops)
input_ends input past files printed e shown well found (input_is_faulty bytes has place fault stops) =
    faulty bytes place (has.held files shown.files_are) has.fits has.are_bytes fault
    (stops_said _ 3 past files printed (read_once e.before) e (read_shown e.before files printed shown) refl well stops)
input_ends input past files printed e shown well found (input_is_not_read mid (by_fault is) stops) =
    absurd (well.read (subst (λ (n : ℕ). HasRisen e.before.read_faults n)
    (sym (says_reads (codes "read failed " ++ role_word input.role) mid e.after stops.says ∙ ap (λ (o : Outside). o.read_faults) is)) (raised_rises e.before.read_faults)))
input_ends input past files printed e shown well found (input_is_not_read mid (by_absence none is) stops) =
    missing (none files shown.files_are) (stops_said _ 4 past files printed mid e (record {
      files_are = ap (λ (o : Outside). o.files) is ∙ shown.files_are;
      printed_is = ap (λ (o : Outside). o.printed) is ∙ shown.printed_is;
    }) (ap (λ (o : Outside). o.write_faults) is) well stops)
input_ends input past files printed e shown well found (memory_lacks wants) = absurd (never_wants past (read_once e.before) e found wants)

one_file : (found : Option (List ℕ)) (a b : List ℕ) → found ≡ Some a → found ≡ Some b → a ≡ b
one_file found a b x y = cc

none_or_some : (found : Option (List ℕ)) (a : List ℕ) → found ≡ None → found ≡ Some a → ⊥
none_or_some found a x y = cc

short_or_long : (found : Option (List ℕ)) (a b : List ℕ) → found ≡ Some a → found ≡ Some b → FILE_LIMIT < length a → length b ≤ FILE_LIMIT → ⊥
short_or_long found a b x y long short = omega (arith, ap length (one_file found a b x y), long, short)

inputs_end_alike : {A : Type 0} (input : Input A) → IsReadOnce input → (past : Past) (files : Files) (printed : List ℕ) (e f : Ended) → Ends input past files printed e → Ends input past files printed f → AreSame e f
inputs_end_alike input once past files printed e f (too_long a is long said) (too_long b at far also) = both_said _ _ 3 3 past files printed e f refl refl said also
inputs_end_alike input once past files printed e f (too_long a is long said) (faulty b place at short are fault also) = absurd (short_or_long (files input.name) a b is at long short)
inputs_end_alike input once past files printed e f (too_long a is long said) (missing none also) = absurd (none_or_some (files input.name) a none is)
inputs_end_alike input once past files printed e f (faulty a place is short are fault said) (too_long b at long also) = absurd (short_or_long (files input.name) b a at is long short)
inputs_end_alike input once past files printed e f (faulty a place is short are fault said) (faulty b spot at brief too wrong also) =
    let same = one_file (files input.name) b a at is in
    both_said _ _ 3 3 past files printed e f (ap (λ (p : Place). input_line input.role (place_words p)) (once.one_place a place spot are fault (subst (λ (x : List ℕ). input.FaultyAt x spot) same wrong))) refl said also
inputs_end_alike input once past files printed e f (faulty a place is short are fault said) (missing none also) = absurd (none_or_some (files input.name) a none is)
inputs_end_alike input once past files printed e f (missing none said) (too_long b at long also) = absurd (none_or_some (files input.name) b none at)
inputs_end_alike input once past files printed e f (missing none said) (faulty b spot at brief too wrong also) = absurd (none_or_some (files input.name) b none at)
inputs_end_alike input once past files printed e f (missing none said) (missing same also) = both_said _ _ 4 4 past files printed e f refl refl said also

-- no command ends at an input that another end has read
read_or_ends : {A : Type 0} (input : Input A) → IsReadOnce input → (past : Past) (files : Files) (printed : List ℕ) (e : Ended) (bytes : List ℕ) (value : A) → files input.name ≡ Some bytes
    → IsBytes bytes → length bytes ≤ FILE_LIMIT → input.Is bytes value → Ends input past files printed e → ⊥
read_or_ends input once past files printed e bytes value at are fits is (too_long a found long said) = short_or_long (files input.name) a bytes found at long fits
read_or_ends input once past files printed e bytes value at are fits is (faulty a place found short too fault said) =
    once.never_both bytes value place are is (subst (λ (x : List ℕ). input.FaultyAt x place) (one_file (files input.name) a bytes found at) fault)
read_or_ends input once past files printed e bytes value at are fits is (missing none said) = none_or_some (files input.name) bytes none at

-- a relation of ends that does not look at what was before, and holds of ends that are alike
pub record IsOfEnds (R : Ended → Ended → Type 0) : Type 0 where
  pub later : (m n : Outside) (e f : Ended) → R (end_seen_from m e) (end_seen_from n f) → R e f
  pub alike : (e f : Ended) → AreSame e f → R e f

-- any two such ends of these two commands are in a relation
abbrev pub Related : (Ended → Ended → Type 0) → Command → Command → Type 0
Related R one other = (past : Past) (files : Files) (printed : List ℕ) (e f : Ended)
    → Goes one past files printed e → Goes other past files printed f → R e f

goes_read : {A : Type 0} (rest : A → Command) (value : A) (past : Past) (files : Files) (printed : List ℕ) (e : Ended) → ShowsAll e.before files printed → IsFaultless e.before e.after
    → e.status ≢ 6 → CommandEnds (rest value) past (end_seen_from (read_once e.before) e) → Goes (rest value) past files printed (end_seen_from (read_once e.before) e)
goes_read rest value past files printed e shown well found ends = record {
  ends = ends;
  shown = read_shown e.before files printed shown;
  faultless = record { read = well.read; write = well.write };
  found = found;
}

-- what a read comes to
data Reads {A : Type 0} (input : Input A) (rest : A → Command) (past : Past) (files : Files) (printed : List ℕ) (e : Ended) : Type 0 where
  reads : (bytes : List ℕ) (value : A) → files input.name ≡ Some bytes → IsBytes bytes → length bytes ≤ FILE_LIMIT → input.Is bytes value
      → Goes (rest value) past files printed (end_seen_from (read_once e.before) e) → Reads input rest past files printed e
  ends_there : Ends input past files printed e → Reads input rest past files printed e

goes_on : {A : Type 0} (input : Input A) (rest : A → Command) (past : Past) (files : Files) (printed : List ℕ) (e : Ended) → ShowsAll e.before files printed → IsFaultless e.before e.after
    → e.status ≢ 6 → CommandEnds (read input rest) past e → Reads input rest past files printed e
unfolding CommandEnds
goes_on input rest past files printed e shown well found (inl ends) = ends_there (input_ends input past files printed e shown well found ends)
goes_on input rest past files printed e shown well found (inr (bytes, has, (value, is, ends))) =
    reads bytes value (has.held files shown.files_are) has.are_bytes has.fits is (goes_read rest value past files printed e shown well found ends)

reads_related : {A : Type 0} (R : Ended → Ended → Type 0) (input : Input A) (rest : A → Command) → IsOfEnds R → IsReadOnce input
    → ((bytes : List ℕ) (value : A) → IsBytes bytes → input.Is bytes value → Related R (rest value) (rest value))
    → (past : Past) (files : Files) (printed : List ℕ) (e f : Ended) → Reads input rest past files printed e → Reads input rest past files printed f → R e f
reads_related {A} R input rest of once on past files printed e f (ends_there ends) (ends_there also) = of.alike e f (inputs_end_alike input once past files printed e f ends also)
reads_related {A} R input rest of once on past files printed e f (ends_there ends) (reads bytes value at are fits is goes) =
    absurd (read_or_ends input once past files printed e bytes value at are fits is ends)
reads_related {A} R input rest of once on past files printed e f (reads bytes value at are fits is goes) (ends_there also) =
    absurd (read_or_ends input once past files printed f bytes value at are fits is also)
reads_related {A} R input rest of once on past files printed e f (reads bytes value at are fits is goes) (reads other found there too short means more) =
    let same = one_file (files input.name) other bytes there at in
    let one : found ≡ value = once.one_value bytes found value are (subst (λ (x : List ℕ). input.Is x found) same means) is in
    of.later (read_once e.before) (read_once f.before) e f
    (on bytes value are is past files printed (end_seen_from (read_once e.before) e) (end_seen_from (read_once f.before) f) goes
    (subst (λ (v : A). Goes (rest v) past files printed (end_seen_from (read_once f.before) f)) one more))

-- ---- the steps of a command

pub related_read : {A : Type 0} (R : Ended → Ended → Type 0) (input : Input A) (rest : A → Command) → IsOfEnds R → IsReadOnce input
    → ((bytes : List ℕ) (value : A) → IsBytes bytes → input.Is bytes value → Related R (rest value) (rest value)) → Related R (read input rest) (read input rest)
related_read R input rest of once on past files printed e f goes also =
    reads_related R input rest of once on past files printed e f
    (goes_on input rest past files printed e goes.shown goes.faultless goes.found goes.ends)
    (goes_on input rest past files printed f also.shown also.faultless also.found also.ends)

pub alike_of_ends : IsOfEnds AreSame
alike_of_ends = record {
  later = λ m n e f same. record { used = same.used; status = same.status; files = same.files; printed = same.printed; shown = same.shown; also = same.also };
  alike = λ e f same. same;
}

pub alike_read : {A : Type 0} (input : Input A) (rest : A → Command) → IsReadOnce input
    → ((bytes : List ℕ) (value : A) → IsBytes bytes → input.Is bytes value → Alike (rest value) (rest value)) → Alike (read input rest) (read input rest)
alike_read input rest once on = related_read AreSame input rest alike_of_ends once on

found_goes : {A : Type 0} (Is : A → Type 0) (rest : A → Command) (past : Past) (files : Files) (printed : List ℕ) (e : Ended) → Goes (find Is rest) past files printed e
    → (value : A) × Is value × Goes (rest value) past files printed e
unfolding CommandEnds
found_goes {A} Is rest past files printed e goes = by goes.ends
  where
    by : ((value : A) × Is value × CommandEnds (rest value) past e) ⊎ WantsMemory past e → (value : A) × Is value × Goes (rest value) past files printed e
    by (inl (value, is, ends)) = (value, is, record { ends = ends; shown = goes.shown; faultless = goes.faultless; found = goes.found })
    by (inr wants) = absurd (goes.found wants.stops.status_is)

-- the values that are found may differ if this makes no difference
pub alike_find : {A : Type 0} (Is : A → Type 0) (rest : A → Command) → ((a b : A) → Is a → Is b → Alike (rest a) (rest b)) → Alike (find Is rest) (find Is rest)
alike_find Is rest on past files printed e f goes also =
    let one = found_goes Is rest past files printed e goes in
    let other = found_goes Is rest past files printed f also in
    on one.0 other.0 one.1 other.1 past files printed e f one.2 other.2

-- there is one value
pub alike_found : {A : Type 0} (Is : A → Type 0) (rest : A → Command) → ((a b : A) → Is a → Is b → a ≡ b) → ((a : A) → Is a → Alike (rest a) (rest a)) → Alike (find Is rest) (find Is rest)
alike_found Is rest one on = alike_find Is rest (λ a b is also. subst (λ v. Alike (rest a) (rest v)) (one a b is also) (on a is))

data Chooses (If : Type 0) (first second : Command) (past : Past) (files : Files) (printed : List ℕ) (e : Ended) : Type 0 where
  takes_first : If → Goes first past files printed e → Chooses If first second past files printed e
  takes_second : (If → ⊥) → Goes second past files printed e → Chooses If first second past files printed e

chosen : (If : Type 0) (first second : Command) (past : Past) (files : Files) (printed : List ℕ) (e : Ended) → Goes (either_command If first second) past files printed e
    → Chooses If first second past files printed e
unfolding CommandEnds
chosen If first second past files printed e goes = by goes.ends
  where
    by : (If × CommandEnds first past e) ⊎ ((If → ⊥) × CommandEnds second past e) ⊎ WantsMemory past e → Chooses If first second past files printed e
    by (inl (is, ends)) = takes_first is (record { ends = ends; shown = goes.shown; faultless = goes.faultless; found = goes.found })
    by (inr (inl (not, ends))) = takes_second not (record { ends = ends; shown = goes.shown; faultless = goes.faultless; found = goes.found })
    by (inr (inr wants)) = absurd (goes.found wants.stops.status_is)

pub alike_either : (If : Type 0) (first second : Command) → (If → Alike first first) → ((If → ⊥) → Alike second second) → Alike (either_command If first second) (either_command If first second)
alike_either If first second one other past files printed e f goes also =
    by (chosen If first second past files printed e goes) (chosen If first second past files printed f also)
  where
    by : Chooses If first second past files printed e → Chooses If first second past files printed f → AreSame e f
    by (takes_first is ends) (takes_first too more) = one is past files printed e f ends more
    by (takes_first is ends) (takes_second not more) = absurd (not is)
    by (takes_second not ends) (takes_first too more) = absurd (not too)
    by (takes_second not ends) (takes_second never more) = other not past files printed e f ends more

-- ---- a write

-- what the files hold after a write of these bytes
abbrev pub files_with : List ℕ → List ℕ → Files → Files
files_with name bytes files other = if same_bytes other name then Some bytes else files other

file_with : (name bytes : List ℕ) (files now : Files) → now name ≡ Some bytes → ((other : List ℕ) → other ≢ name → now other ≡ files other) → (other : List ℕ)
    → now other ≡ files_with name bytes files other
file_with name bytes files now held stay other = by (same_bytes other name) refl
  where
    by : (b : Bool) → same_bytes other name ≡ b → now other ≡ (if same_bytes other name then Some bytes else files other)
    by true is = ap now (same_bytes-true other name is) ∙ held ∙ sym (rw is refl)
    by false is = stay other (λ same. true≢false (sym (same_bytes-refl name) ∙ ap (λ (o : List ℕ). same_bytes o name) (sym same) ∙ is)) ∙ sym (rw is refl)

files_after : (name bytes : List ℕ) (before after : Outside) (files : Files) (printed : List ℕ) → ShowsAll before files printed → WritesFile name bytes before after
    → ShowsAll after (files_with name bytes files) printed
files_after name bytes before after files printed shown wrote =
    let now = wrote.others files shown.files_are in
    record {
      files_are = now.1 ∙ ap (λ (x : Files). Some x) (fun_ext (file_with name bytes files now.0 (wrote.holds now.0 now.1) now.2));
      printed_is = ap (λ (o : Outside). o.printed) wrote.stays ∙ shown.printed_is;
    }

pub write_goes : (output : Output) (rest : Command) (past : Past) (files : Files) (printed : List ℕ) (e : Ended) → Goes (write output rest) past files printed e
    → (mid : Outside) × Goes rest (record past { wrote = true }) (files_with output.name output.bytes files) printed (end_seen_from mid e)
unfolding CommandEnds
write_goes output rest past files printed e goes = by goes.ends
  where
    by : WriteEnds output past e
        ⊎ ((mid : Outside) × WritesFile output.name output.bytes e.before mid × CommandEnds rest (record past { wrote = true }) (end_seen_from mid e))
        ⊎ WantsMemory past e
        → (mid : Outside) × Goes rest (record past { wrote = true }) (files_with output.name output.bytes files) printed (end_seen_from mid e)
    by (inl ends) = absurd (goes.faultless.write (says_writes (codes "write failed " ++ role_word output.role) e.before.write_faults ends.mid e.after
        (ap (λ (o : Outside). o.write_faults) ends.fails.stays) ends.stops.says))
    by (inr (inl (mid, wrote, ends))) = (
      mid,
      record {
        ends = ends;
        shown = files_after output.name output.bytes e.before mid files printed goes.shown wrote;
        faultless = record {
          read = λ rose. goes.faultless.read (subst (λ (n : ℕ). HasRisen n e.after.read_faults) (ap (λ (o : Outside). o.read_faults) wrote.stays) rose);
          write = λ rose. goes.faultless.write (subst (λ (n : ℕ). HasRisen n e.after.write_faults) (ap (λ (o : Outside). o.write_faults) wrote.stays) rose);
        };
        found = goes.found;
      },
    )
    by (inr (inr wants)) = absurd (goes.found wants.stops.status_is)

pub alike_write : (output : Output) (rest : Command) → Alike rest rest → Alike (write output rest) (write output rest)
alike_write output rest on past files printed e f goes also =
    let one = write_goes output rest past files printed e goes in
    let other = write_goes output rest past files printed f also in
    alike_of_ends.later one.0 other.0 e f
    (on (record past { wrote = true }) (files_with output.name output.bytes files) printed (end_seen_from one.0 e) (end_seen_from other.0 f) one.1 other.1)

-- ---- the end

pub print_goes : (text : List ℕ) (past : Past) (files : Files) (printed : List ℕ) (e : Ended) → Goes (print text) past files printed e
    → ShowsAll e.after files (printed ++ text) × (e.status ≡ 0) × (e.used ≡ past.used)
unfolding CommandEnds
print_goes text past files printed e goes = by goes.ends
  where
    by : PrintEnds text past e ⊎ WantsMemory past e → ShowsAll e.after files (printed ++ text) × (e.status ≡ 0) × (e.used ≡ past.used)
    by (inl (text_is_printed prints same is)) = (prints_shown text e.before e.after files printed goes.shown prints, is, same)
    by (inl (text_is_not_printed mid fails stops)) = absurd (goes.faultless.write (says_writes (codes "write failed output") e.before.write_faults mid e.after
        (ap (λ (o : Outside). o.write_faults) fails.stays) stops.says))
    by (inr wants) = absurd (goes.found wants.stops.status_is)

pub alike_print : (text : List ℕ) → Alike (print text) (print text)
alike_print text past files printed e f goes also =
    let one = print_goes text past files printed e goes in
    let other = print_goes text past files printed f also in
    record { used = one.2 ∙ sym other.2; status = one.1 ∙ sym other.1; files = files; printed = printed ++ text; shown = one.0; also = other.0 }

refuse_goes : (line : List ℕ) (past : Past) (files : Files) (printed : List ℕ) (e : Ended) → Goes (refuse line) past files printed e → HasSaid line 7 past files printed e
unfolding CommandEnds
refuse_goes line past files printed e goes = by goes.ends
  where
    by : Stops line 7 past e ⊎ WantsMemory past e → HasSaid line 7 past files printed e
    by (inl stops) = stops_said line 7 past files printed e.before e goes.shown refl goes.faultless (record { says = stops.says; used = stops.used; status_is = stops.status_is })
    by (inr wants) = absurd (goes.found wants.stops.status_is)

pub alike_refuse : (line : List ℕ) → Alike (refuse line) (refuse line)
alike_refuse line past files printed e f goes also =
    both_said line line 7 7 past files printed e f refl refl (refuse_goes line past files printed e goes) (refuse_goes line past files printed f also)

pub lack_never : (past : Past) (files : Files) (printed : List ℕ) (e : Ended) → Goes lack past files printed e → ⊥
unfolding CommandEnds
lack_never past files printed e goes = goes.found goes.ends.status_is

-- ---- a whole command

pub whole_goes : (does : Command) (files : Files) (printed : List ℕ) (e : Ended) → EndsUndisturbed does files printed e → Goes does at_first files printed e
whole_goes does files printed e whole = record { ends = whole.ends; shown = whole.shown; faultless = whole.faultless; found = whole.found }

pub whole_alike : (does : Command) → Alike does does → (files : Files) (printed : List ℕ) (e f : Ended) → EndsUndisturbed does files printed e → EndsUndisturbed does files printed f → AreAlike e f
whole_alike does on files printed e f whole also =
    let same = on at_first files printed e f (whole_goes does files printed e whole) (whole_goes does files printed f also) in
    record { status = same.status; files = same.files; printed = same.printed; shown = same.shown; also = same.also }
