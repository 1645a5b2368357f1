-- A sheet is answered by what was read of its text. Assumes nothing.
use Rattle.std.proofs.Common.{◌≡◌, ℕ, ◌/◌, ◌≤◌, List, Option, Some, None, Result, Ok, length, take, replicate, sym, ap, ◌∙◌, arith}
use Rattle.std.specs.Option.{ok_or}
use Rattle.sheet_values.specs.declared.Op.{Op}
use Rattle.sheet_values.specs.Values.{unhexed}
use Rattle.sheet_text.specs.declared.read.Request.{Request}
use Rattle.sheet_text.specs.Reading.{Sheet, sheet, asked, read_of}
use Rattle.sheet_text.proofs.Parts.{Asked, asks, frame_fits, frame_there}
use Rattle.sheet.specs.declared.Refused.{Refused}
use Rattle.sheet.specs.Sheet.{operation, answer_to, sheet_of}

-- a value that was there
there : {A E : Type 0} (o : Option A) (e : E) (x : A) → ok_or o e ≡ Ok x → o ≡ Some x
there (Some y) e x h = let f : y ≡ x = cc in ap Some f
there None e x h = absurd (let z : ◌≡◌ {A = ℕ} 0 1 = cc in omega arith)

-- what was read of the text, with its bytes at the front of a buffer
module _ (s : List ℕ) (r : Option Request) (f : asked r ≡ read_of s) (told : Result Request Refused) (none : Refused) (o : told ≡ ok_or r none) (q : Request) (e : told ≡ Ok q)
    (buffer : List ℕ) (g : buffer ≡ unhexed q.frame.now (replicate 4080 0)) where
  request : Asked s q
  request = asks s q (rw (there r none q (sym o ∙ e)) at f)

  pub bytes_inside : length q.frame.now / 2 ≤ length buffer
  bytes_inside = frame_fits s q request g

  pub sheet_answered : (op : Op) (text : List ℕ) → q.op ≡ op → text ≡ operation op q.code q.limit (take (length q.frame.now / 2) buffer) → text ≡ sheet_of s
  sheet_answered op text h p =
      p ∙ ap (λ (op : Op). operation op q.code q.limit (take (length q.frame.now / 2) buffer)) (sym h)
      ∙ ap (λ (l : List ℕ). answer_to (sheet q.code q.op q.limit l)) (frame_there s q request g)
      ∙ ap (λ (x : Option Sheet). answer_to x) (sym request.parsed)
