-- What storing a file does to a list of files.
use Rattle.std.proofs.Common.{◌≡◌, ◌≢◌, ℕ, true, false, List, [], ◌∷◌, ◌++◌, None, Some, get_or, set, refl, ap, ◌∙◌, sym, arith}
use Rattle.std.proofs.lemmas.Grind.{common_steps}
use Rattle.std.proofs.lemmas.List.Folds.{find_at, find-set, find_past, find-append}
use Rattle.std.proofs.lemmas.Option.{slice_get_past}
use Rattle.std.proofs.lemmas.List.Quantifiers.{position-Some}
use Rattle.std.proofs.lemmas.Slice.Eq.{bytes_eq-Decides}
use Rattle.std.specs.List.{find, position, position_or_len}
use Rattle.std.specs.Option.{option_map}
use Rattle.mb_model.specs.declared.items.File.{File}
use Rattle.mb_host.specs.Memory.{Stores, is_named}

-- a file has its own name, and no other
is_named-own : (name : List ℕ) (file : File) → file.name ≡ name → is_named name file ≡ true
is_named-own name file h = (bytes_eq-Decides file.name name).1 h

is_named-other : (name : List ℕ) (file : File) → name ≢ file.name → is_named name file ≡ false
is_named-other name file h =
    let decides = bytes_eq-Decides file.name name in
    grind (arith, common_steps, decides)

-- the index is the first one
index_is : (files : List File) (name : List ℕ) (at : ℕ) →
    position (is_named name) files ≡ Some at → at ≡ position_or_len (is_named name) files
index_is files name at h = grind (arith, common_steps, h)

-- with no index there is no file
find-none : (files : List File) (name : List ℕ) → position (is_named name) files ≡ None → find (is_named name) files ≡ None
find-none files name h = rw (find_at (is_named name) files) (grind (arith, common_steps, slice_get_past))

pub Stores-set : (files : List File) (name bytes : List ℕ) (at : ℕ) (file : File) →
    file ≡ get_or files at file → position (is_named name) files ≡ Some at →
    Stores files (set files at (record { name = file.name; bytes = bytes })) name bytes
Stores-set files name bytes at file is h =
    let found = position-Some (is_named name) files at file h in
    let own : is_named name file ≡ true = rw is found.1 in
    let named : file.name ≡ name = (bytes_eq-Decides file.name name).0 own in
    record {
      held = ap (option_map (λ (f : File). f.bytes)) (find-set (is_named name) files at _ (index_is files name at h) found.0 own);
      others = λ other differs.
          let not : is_named other file ≡ false = is_named-other other file (λ e. differs (e ∙ named)) in
          ap (option_map (λ (f : File). f.bytes)) (find_past (is_named other) files at _ file (rw (sym is) not) not);
    }

pub Stores-push : (files : List File) (name bytes : List ℕ) → position (is_named name) files ≡ None →
    Stores files (files ++ record { name = name; bytes = bytes } ∷ []) name bytes
Stores-push files name bytes h =
    let file : File = record { name = name; bytes = bytes } in
    record {
      held = rw (find-append (is_named name) files (file ∷ []), find-none files name h, is_named-own name file refl);
      others = λ other differs. rw (find-append (is_named other) files (file ∷ []), is_named-other other file differs) (grind (arith, common_steps));
    }
