-- The calls on the stored regions by the place that holds one, from those by the number of its slot.
use Rattle.std.proofs.Common.{◌≡◌, ℕ, List, Ok, Err, sym, subst, rules}
use Rattle.std.specs.Global.{Vec}
use Rattle.mb_model.specs.declared.region.Region.{Region}
use Rattle.mb_model.specs.declared.stored.Fate.{Fate}
use Rattle.mb_board.specs.Calls.{Seen}
use Rattle.mb_slot.specs.Calls.{WipesOther}
use Rattle.mb_layout.specs.declared.room.Room.{Room}
use Rattle.mb_region.specs.Regions.{IsRegionSlot}
use Rattle.mb_region.specs.Calls.{CommitsRecord, CommitsRegion, FinishesFate, WipesRegion}
use Rattle.mb_region.proofs.Replaced.{keeps}

pub record_placed_ok : {A B E F : Type 0} (slot place : ℕ) (bytes : List ℕ) (area area_after : Vec ℕ) (before after : Seen) (value : A) (other : B) → slot ≡ place → CommitsRecord slot bytes area area_after {A = A} {E = E} (Ok value) before after
    → CommitsRecord place bytes area area_after {A = B} {E = F} (Ok other) before after
record_placed_ok {B = B} {F = F} slot place bytes area area_after before after value other same given =
    subst (λ (n : ℕ). CommitsRecord n bytes area area_after {A = B} {E = F} (Ok other) before after) same
    (record { done = given.done; either = given.either; left = given.left; besides = given.besides; writes = given.writes; ran = search rules; capacity = given.capacity })

pub record_placed_err : {A B E F : Type 0} (slot place : ℕ) (bytes : List ℕ) (area area_after : Vec ℕ) (before after : Seen) (error : E) (other : F) → slot ≡ place → CommitsRecord slot bytes area area_after {A = A} {E = E} (Err error) before after
    → CommitsRecord place bytes area area_after {A = B} {E = F} (Err other) before after
record_placed_err {B = B} {F = F} slot place bytes area area_after before after error other same given =
    subst (λ (n : ℕ). CommitsRecord n bytes area area_after {A = B} {E = F} (Err other) before after) same
    (record { done = λ region spelled. tt; either = given.either; left = tt; besides = given.besides; writes = tt; ran = search rules; capacity = given.capacity })

pub region_placed_ok : {A B E F : Type 0} (slot place : ℕ) (region : Region) (room room_after : Room) (before after : Seen) (value : A) (other : B) → slot ≡ place → CommitsRegion slot region room room_after {A = A} {E = E} (Ok value) before after
    → CommitsRegion place region room room_after {A = B} {E = F} (Ok other) before after
region_placed_ok {B = B} {F = F} slot place region room room_after before after value other same given =
    subst (λ (n : ℕ). CommitsRegion n region room room_after {A = B} {E = F} (Ok other) before after) same
    (record { done = given.done; either = given.either; means = given.means; means_either = given.means_either; left = given.left; besides = given.besides; writes = given.writes; ran = search rules; plans = given.plans })

pub region_placed_err : {A B E F : Type 0} (slot place : ℕ) (region : Region) (room room_after : Room) (before after : Seen) (error : E) (other : F) → slot ≡ place → CommitsRegion slot region room room_after {A = A} {E = E} (Err error) before after
    → CommitsRegion place region room room_after {A = B} {E = F} (Err other) before after
region_placed_err {B = B} {F = F} slot place region room room_after before after error other same given =
    subst (λ (n : ℕ). CommitsRegion n region room room_after {A = B} {E = F} (Err other) before after) same
    (record { done = tt; either = given.either; means = λ none state means. tt; means_either = given.means_either; left = tt; besides = given.besides; writes = tt; ran = search rules; plans = given.plans })

pub fate_placed_ok : {A B E F : Type 0} (slot place : ℕ) (fate : Fate) (room room_after : Room) (before after : Seen) (value : A) (other : B) → slot ≡ place → FinishesFate slot fate room room_after {A = A} {E = E} (Ok value) before after
    → FinishesFate place fate room room_after {A = B} {E = F} (Ok other) before after
fate_placed_ok {B = B} {F = F} slot place fate room room_after before after value other same given =
    subst (λ (n : ℕ). FinishesFate n fate room room_after {A = B} {E = F} (Ok other) before after) same
    (record { done = given.done; either = given.either; meaning = given.meaning; idle = given.idle; besides = given.besides; ran = search rules; plans = given.plans })

pub fate_placed_err : {A B E F : Type 0} (slot place : ℕ) (fate : Fate) (room room_after : Room) (before after : Seen) (error : E) (other : F) → slot ≡ place → FinishesFate slot fate room room_after {A = A} {E = E} (Err error) before after
    → FinishesFate place fate room room_after {A = B} {E = F} (Err other) before after
fate_placed_err {B = B} {F = F} slot place fate room room_after before after error other same given =
    subst (λ (n : ℕ). FinishesFate n fate room room_after {A = B} {E = F} (Err other) before after) same
    (record { done = tt; either = given.either; meaning = given.meaning; idle = given.idle; besides = given.besides; ran = search rules; plans = given.plans })

pub wiped_ok : {A B E F : Type 0} (slot place : ℕ) (before after : Seen) (value : A) (other : B) → slot ≡ place → IsRegionSlot place → WipesOther slot {A = A} {E = E} (Ok value) before after
    → WipesRegion place {A = B} {E = F} (Ok other) before after
wiped_ok {B = B} {F = F} slot place before after value other same which given =
    subst (λ (n : ℕ). WipesRegion n {A = B} {E = F} (Ok other) before after) same
    (record { blank = given.blank; current = given.current; contents = keeps slot before.memory after.memory (subst IsRegionSlot (sym same) which) given.ran.flash given.besides given.current; idle = given.idle; writes = given.writes; besides = given.besides; ran = search rules })

pub wiped_err : {A B E F : Type 0} (slot place : ℕ) (before after : Seen) (error : E) (other : F) → slot ≡ place → IsRegionSlot place → WipesOther slot {A = A} {E = E} (Err error) before after
    → WipesRegion place {A = B} {E = F} (Err other) before after
wiped_err {B = B} {F = F} slot place before after error other same which given =
    subst (λ (n : ℕ). WipesRegion n {A = B} {E = F} (Err other) before after) same
    (record { blank = tt; current = given.current; contents = keeps slot before.memory after.memory (subst IsRegionSlot (sym same) which) given.ran.flash given.besides given.current; idle = given.idle; writes = λ some. tt; besides = given.besides; ran = search rules })
