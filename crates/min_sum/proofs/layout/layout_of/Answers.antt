use Rattle.codes.proofs.Bounds.{row_bounded, bits_fit, data_low, marginals_fit, minima_fit}
use Rattle.codes.proofs.Rows.{row_given}
use Rattle.min_sum.proofs.layout.layout_of.Goals as goal

pub overflow_add-bits : goal.overflow_add-bits
overflow_add-bits c = bits_fit _ (row_bounded c.args.code _ (row_given c.args.code _ _ c.params.ensures.found c.unwrap_or_default-row.ensures))

pub overflow_sub-checks : goal.overflow_sub-checks
overflow_sub-checks c = data_low _ (row_bounded c.args.code _ (row_given c.args.code _ _ c.params.ensures.found c.unwrap_or_default-row.ensures))

pub overflow_add-first : goal.overflow_add-first
overflow_add-first c = marginals_fit _ (row_bounded c.args.code _ (row_given c.args.code _ _ c.params.ensures.found c.unwrap_or_default-row.ensures))

pub overflow_add-result : goal.overflow_add-result
overflow_add-result c = minima_fit _ (row_bounded c.args.code _ (row_given c.args.code _ _ c.params.ensures.found c.unwrap_or_default-row.ensures))

pub returns : goal.returns
returns c = rw (row_given c.args.code _ _ c.params.ensures.found c.unwrap_or_default-row.ensures)
