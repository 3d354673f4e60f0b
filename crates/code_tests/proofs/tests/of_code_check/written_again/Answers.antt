use Rattle.code_tests.proofs.tests.of_code_check.written_again.Goals as goal

pub write_code-requires : goal.write_code-requires
write_code-requires c = c.in_ok-code.ensures.spelled.form.spelled
