use Rattle.s4_kept_tests.proofs.objects.an_object_is_flushed_and_goes_with_its_last_value.Goals as goal

pub make-requires : goal.make-requires
make-requires g c = record { holds = c.new-objects.ensures.holds _ }
