-- Texts and what they mean; the checker computes each line. Do the definitions say what their words say?
use Rattle.std.specs.Prelude.{◌≡◌, ℕ, List, [], ◌∷◌, ◌++◌, replicate, codes, None, Some}
use Rattle.mb_model.specs.declared.key.Trust.TheVariants.{Never}
use Rattle.mb_model.specs.declared.order.Act.TheVariants as act
use Rattle.mb_model.specs.declared.order.Order.{Order}
use Rattle.mb_model.specs.declared.entry.Said.TheVariants.{Message, Answer}
use Rattle.mb_model.specs.declared.event.Event.{Event}
use Rattle.mb_model.specs.declared.event.Event.TheVariants as event
use Rattle.mb_model.specs.declared.reply.Reply.TheVariants as reply
use Rattle.mb_model.specs.declared.reply.Standing.TheVariants as stands
use Rattle.mb_model.specs.owners.Layers.{equal_trusts, layer_without_owner}
use Rattle.mb_model.specs.chains.Lines.{HasLines, FailsAtLine, ReadsLines, TextFailsAtLine}
use Rattle.mb_model.specs.chains.Script.{IsScript, drawn_events}
use Rattle.mb_model.specs.chains.Replies.{reply_line}
use Rattle.mb_model.specs.chains.Drafts.{IsDraft}
use Rattle.mb_model.specs.chains.OrderLines.{IsOrderLine, order_line}
use Rattle.mb_model.specs.chains.Listing.{layer_line, statement_lines, summary}
use Rattle.mb_model_lemmas.specs.SampleOrder.{surrender, surrender_line}

-- ---- lines

-- which lines some texts have
pub record LineExamples : Type 0 where
  pub empty : HasLines [] []
  pub one : HasLines (codes "a" ++ 10 ∷ []) (codes "a" ∷ [])
  pub two : HasLines (codes "a" ++ 10 ∷ 10 ∷ []) (codes "a" ∷ [] ∷ [])
  -- the last line may lack its LF
  pub lacking : HasLines (codes "a" ++ 10 ∷ codes "b") (codes "a" ∷ codes "b" ∷ [])

-- ---- scripts

abbrev pub script_text : List ℕ
script_text =
    codes "boot" ++ 10 ∷ codes "# a secret, and a cut" ++ 10
    ∷ codes "put 2 pin 31323334" ++ 10 ∷ 10 ∷ codes "cut 3 keep 5 fill fF"
    ++ 10 ∷ codes "cut 3 fill 00" ++ 10 ∷ codes "command -" ++ 10 ∷ codes "sign 3 1 68656c6c6f" ++ 10
    ∷ codes "call 2 1 00ff" ++ 10 ∷ codes "call 3 - -" ++ 10 ∷ []

abbrev pub script_events : List Event
script_events =
    event.Boot
    ∷ event.Put 2 (codes "pin") (codes "1234")
    ∷ event.Cut 3 (record { keep = 5; fill = 255 ∷ replicate 15 0; fill_length = 1 })
    ∷ event.Cut 3 (record { keep = 0; fill = replicate 16 0; fill_length = 1 })
    ∷ event.Order [] (replicate 32 0)
    ∷ event.Sign 3 1 (codes "hello")
    ∷ event.Call 2 (Some 1) (0 ∷ 255 ∷ [])
    ∷ event.Call 3 None []
    ∷ []

-- what scripts mean, and where they fail
pub record ScriptExamples : Type 0 where
  pub script : ReadsLines IsScript script_text script_events
  pub no_script : TextFailsAtLine IsScript (codes "boot" ++ 10 ∷ 10 ∷ codes "jump" ++ 10 ∷ []) 3
  pub empty : ReadsLines IsScript [] []

-- the draws of two commands
pub record DrawExamples : Type 0 where
  pub drawn : (text draw : List ℕ)
      → drawn_events (replicate 32 1 ++ replicate 32 2)
      (event.Order text draw ∷ event.Off ∷ event.Order text draw ∷ [])
      ≡ event.Order text (replicate 32 1) ∷ event.Off ∷ event.Order text (replicate 32 2) ∷ []

-- ---- replies

-- the lines of some replies
pub record ReplyExamples : Type 0 where
  pub at : reply_line (reply.At 2) ≡ codes "at 2"
  pub done : reply_line (reply.Done 31 128) ≡ codes "done 31 128"
  pub value : reply_line (reply.Value (codes "1234")) ≡ codes "value 31323334"
  pub empty_value : reply_line (reply.Value []) ≡ codes "value -"
  pub signed : reply_line (reply.Signed 1 0 (0xAB ∷ [])) ≡ codes "signed 1 0 ab"
  pub status : reply_line (reply.Status (replicate 16 7) 1 2 stands.Runnable stands.Unreliable stands.Unowned)
      ≡ codes "status 07070707070707070707070707070707 1 2 runnable unreliable unowned"
  pub called : reply_line (reply.Called (0xAB ∷ [])) ≡ codes "called ab"
  pub called_empty : reply_line (reply.Called []) ≡ codes "called -"
  pub code : reply_line (reply.Refused 8) ≡ codes "refused 8 code"
  pub run : reply_line (reply.Refused 9) ≡ codes "refused 9 run"
  pub text : reply_line (reply.Refused 10) ≡ codes "refused 10 text"
  pub log_full : reply_line (reply.Refused 15) ≡ codes "refused 15 log full"
  pub no_memory : reply_line reply.NoMemory ≡ codes "no memory"

-- ---- drafts

-- load the three bytes abc into layer 3
abbrev pub order_of_code : Order
order_of_code =
    record {
      layer = 3;
      targets = [];
      act = act.Load (record { version = 258; trust = equal_trusts Never; code = codes "abc" });
      signature = [];
      countersignatures = [];
    }

-- what drafts mean, and where they fail
pub record DraftExamples : Type 0 where
  pub surrender : IsDraft (codes "order surrender 2" ∷ codes "target length 7" ∷ []) surrender
  pub load : IsDraft (codes "order load 3" ∷ codes "version 258" ∷ codes "trust never" ∷ codes "code 616263" ∷ [])
      order_of_code
  -- a load without its code ends too early
  pub too_short : FailsAtLine IsDraft (codes "order load 3" ∷ codes "version 258" ∷ codes "trust never" ∷ []) 4

-- ---- order lines

pub record OrderLineExamples : Type 0 where
  pub order : IsOrderLine (surrender_line ∷ []) surrender
  pub written : order_line surrender ≡ surrender_line
  -- an empty line after that of an order is line 2
  pub second : FailsAtLine IsOrderLine (surrender_line ∷ [] ∷ []) 2
  pub no_line : FailsAtLine IsOrderLine [] 1
  pub no_order : FailsAtLine IsOrderLine (codes "command 00" ∷ [] ∷ []) 1

-- ---- listings

pub record ListingExamples : Type 0 where
  pub unowned_layer : layer_line 3 layer_without_owner ≡ codes "layer 3 - - - unreliable never"
  -- what a statement says, in the last line of a listing
  pub message : statement_lines (Some (Message (codes "hello"))) ≡ codes "statement 68656c6c6f" ∷ []
  pub answer : statement_lines (Some (Answer (0xAB ∷ []) [])) ≡ codes "called ab -" ∷ []
  pub summary : summary
      (record { event = event.Boot; reply = reply.Booted }
      ∷ record { event = event.Order [] []; reply = reply.Done 1 2 }
      ∷ [])
      2
      (0x0F ∷ [])
      ≡ codes "events 2" ∷ codes "done 1" ∷ codes "signed 0" ∷ codes "refused 0"
      ∷ codes "length 2" ∷ codes "image 0f" ∷ []
