-- What a sheet that is refused is answered. Assumes nothing.
use Rattle.std.specs.Prelude.{List, [], ℕ, Result, Ok, Err}
use Rattle.codes.specs.Answers.{number as library_number}
use Rattle.report.specs.Report.{refusal}
use Rattle.sheet.specs.declared.Refused.{Refused}
use Rattle.sheet.specs.declared.Refused.TheVariants.{Malformed, NoRoom, By}
use Rattle.sheet.specs.Sheet.{reported, no_room}
use Rattle.sheet_text.specs.Reading.{malformed, text_number}

-- the number of a refusal: the sheet's own, and the library's
abbrev pub number : Refused → ℕ
number Malformed = text_number malformed
number NoRoom = no_room
number (By why) = library_number why

-- the text that was made, or that of the refusal
abbrev pub text_of : Result (List ℕ) Refused → List ℕ
text_of (Ok text) = text
text_of (Err why) = reported (refusal (number why)) []
