-- How long the parts of a case are: by its operation, and where its number is no operation's. Assumes nothing.
use mathlib.Core.Path.{◌≡◌, refl, sym}
use borrow.Author.Tests.{ne_eqb}
use Rattle.std.specs.Prelude.{◌≢◌}
use Rattle.codes.specs.declared.CodeParams.{CodeParams}
use Rattle.cases.specs.declared.Case.{Case}
use Rattle.cases.specs.declared.Operation.{Operation}
use Rattle.cases.specs.declared.Operation.TheVariants.{Encoders, BitFlipping, MinSum, HardToLlrs, LlrsToHard, Sheet}
use Rattle.cases.specs.Cases.{number, bytes_read, read_len, bytes_written, written_len}

module _ (c : Case) (row : CodeParams) where
  pub reads : (op : Operation) → number op ≡ c.op → bytes_read op c row ≡ read_len c row
  reads Encoders e = rw (← e) refl
  reads BitFlipping e = rw (← e) refl
  reads MinSum e = rw (← e) refl
  reads HardToLlrs e = rw (← e) refl
  reads LlrsToHard e = rw (← e) refl
  reads Sheet e = rw (← e) refl

  pub writes : (op : Operation) → number op ≡ c.op → bytes_written op c row ≡ written_len c row
  writes Encoders e = rw (← e) refl
  writes BitFlipping e = rw (← e) refl
  writes MinSum e = rw (← e) refl
  writes HardToLlrs e = rw (← e) refl
  writes LlrsToHard e = rw (← e) refl
  writes Sheet e = rw (← e) refl

  module _ (n : (op : Operation) → number op ≢ c.op) where
    pub reads_text : c.text ≡ read_len c row
    reads_text =
        rw (
          ne_eqb c.op 1 (λ e. n Encoders (sym e)),
          ne_eqb c.op 2 (λ e. n BitFlipping (sym e)),
          ne_eqb c.op 3 (λ e. n MinSum (sym e)),
          ne_eqb c.op 4 (λ e. n HardToLlrs (sym e)),
          ne_eqb c.op 5 (λ e. n LlrsToHard (sym e)),
        )

    pub writes_answer : c.answer ≡ written_len c row
    writes_answer =
        rw (
          ne_eqb c.op 1 (λ e. n Encoders (sym e)),
          ne_eqb c.op 2 (λ e. n BitFlipping (sym e)),
          ne_eqb c.op 3 (λ e. n MinSum (sym e)),
          ne_eqb c.op 4 (λ e. n HardToLlrs (sym e)),
          ne_eqb c.op 5 (λ e. n LlrsToHard (sym e)),
        )
