-- Why a device refuses an event. Does each refusal have one number, with words?
use Rattle.std.specs.Prelude.{ℕ, ◌==◌, List, codes, Option, None, Some, if◌then◌else◌}
use Rattle.mb_model.specs.declared.reply.OrderRefusal.{OrderRefusal}
use Rattle.mb_model.specs.declared.reply.OrderRefusal.TheVariants.{WrongTarget, WrongState, WrongSignature}
use Rattle.mb_model.specs.declared.reply.OrderRefusal.TheVariants.{WrongCountersignature, LogFull, KeysFull}
use Rattle.mb_model.specs.declared.reply.Refusal.{Refusal}
use Rattle.mb_model.specs.declared.reply.Refusal.TheVariants.{PoweredOff, WrongPhase, Zeroised, WrongLayer, RegionFull}
use Rattle.mb_model.specs.declared.reply.Refusal.TheVariants.{NoSuchKey, KeySpent, WrongCode, RunFailed, BadText, Order}
use Rattle.mb_model.specs.declared.reply.Reply.{Reply}
use Rattle.mb_model.specs.declared.reply.Reply.TheVariants as reply

-- the number by which a device reports that an order fails a check
abbrev pub order_refusal_number : OrderRefusal → ℕ
order_refusal_number (WrongTarget index) = 11
order_refusal_number WrongState = 12
order_refusal_number WrongSignature = 13
order_refusal_number (WrongCountersignature cosigner) = 14
order_refusal_number LogFull = 15
order_refusal_number KeysFull = 16

-- the number by which a device reports a refusal
abbrev pub refusal_number : Refusal → ℕ
refusal_number PoweredOff = 1
refusal_number WrongPhase = 2
refusal_number Zeroised = 3
refusal_number WrongLayer = 4
refusal_number RegionFull = 5
refusal_number NoSuchKey = 6
refusal_number KeySpent = 7
refusal_number WrongCode = 8
refusal_number RunFailed = 9
refusal_number BadText = 10
refusal_number (Order refusal) = order_refusal_number refusal

abbrev pub refusal_reply : Refusal → Reply
refusal_reply refusal = reply.Refused (refusal_number refusal)

-- the words for the number of a refusal; no refusal has any other number
abbrev pub refusal_words : ℕ → Option (List ℕ)
refusal_words number =
    if number == 1 then Some (codes "off")
    else if number == 2 then Some (codes "phase")
    else if number == 3 then Some (codes "zeroised")
    else if number == 4 then Some (codes "layer")
    else if number == 5 then Some (codes "full")
    else if number == 6 then Some (codes "key")
    else if number == 7 then Some (codes "spent")
    else if number == 8 then Some (codes "code")
    else if number == 9 then Some (codes "run")
    else if number == 10 then Some (codes "text")
    else if number == 11 then Some (codes "target")
    else if number == 12 then Some (codes "state")
    else if number == 13 then Some (codes "signature")
    else if number == 14 then Some (codes "countersignature")
    else if number == 15 then Some (codes "log full")
    else if number == 16 then Some (codes "keys full")
    else None
