use Rattle.std.proofs.Common.{rules}
use Rattle.s4_codec.proofs.read_requests.read_plain_fields.Goals as goal

pub returns-in_err-read-in-2 : goal.returns-in_err-read-in-2
returns-in_err-read-in-2 c = λ version. rw c.in-2.is (search rules)

pub returns-in_ok-read-in-2 : goal.returns-in_ok-read-in-2
returns-in_ok-read-in-2 c = λ version. rw c.in-2.is (search rules)

pub returns-in-3 : goal.returns-in-3
returns-in-3 c = λ version. rw c.in-3.is c.read_read.ensures

pub returns-in-6 : goal.returns-in-6
returns-in-6 c = λ version. rw c.in-6.is c.read_truncate.ensures

pub returns-in-7 : goal.returns-in-7
returns-in-7 c = λ version. rw c.in-7.is c.read_get_attr.ensures

pub returns-in-9 : goal.returns-in-9
returns-in-9 c = λ version. rw c.in-9.is c.read_get_acl_by_user.ensures

pub returns-in-10 : goal.returns-in-10
returns-in-10 c = λ version. rw c.in-10.is c.read_get_acl_by_index.ensures

pub returns-in-11 : goal.returns-in-11
returns-in-11 c = λ version. rw c.in-11.is c.read_set_acl.ensures

pub returns-in-12 : goal.returns-in-12
returns-in-12 c = λ version. rw c.in-12.is c.read_pcreate.ensures

pub returns-in-13 : goal.returns-in-13
returns-in-13 c = λ version. rw c.in-13.is c.read_pdelete.ensures

pub returns-in-14 : goal.returns-in-14
returns-in-14 c = λ version. rw c.in-14.is c.read_plist.ensures

pub returns-in-15 : goal.returns-in-15
returns-in-15 c = λ version. rw c.in-15.is c.read_pmount.ensures

pub returns-in-16 : goal.returns-in-16
returns-in-16 c = λ version. rw c.in-16.is c.read_flush.ensures

pub returns-in-17 : goal.returns-in-17
returns-in-17 c = λ version. rw c.in-17.is c.read_flush_object.ensures

pub returns-in-19 : goal.returns-in-19
returns-in-19 c = λ version. rw c.in-19.is c.read_set_budget.ensures

pub returns-in-20 : goal.returns-in-20
returns-in-20 c = λ version. rw c.in-20.is c.read_read_audit.ensures
