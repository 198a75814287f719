-- `plan_fields::header_of` meets its contract: the law of Headers, at the bytes.
use Rattle.model.specs.Plan.{form_of}
use Rattle.plan_fields.proofs.Headers.{header_bytes, header_taken}
use Rattle.plan_fields.proofs.header_of.Goals as goal

pub returns : goal.returns
unfolding form_of
returns c =
    rw (header_bytes c.args.bytes)
    (header_taken _ _ _ _ _ c.element_fits.fits c.element_fits2.fits c.element_fits3.fits c.element_fits4.fits c.element_fits5.fits
    _ _ _ _ c.is_gentle-gentle.ensures c.growth_in.ensures c.utilization_in.ensures c.length_in.ensures)
