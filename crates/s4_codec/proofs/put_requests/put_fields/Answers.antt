use Rattle.s4_codec.proofs.put_requests.put_fields.Goals as goal

pub returns-in-Create : goal.returns-in-Create
returns-in-Create g c =
    let number = c.put_purse_number.ensures.added in
    rw c.in-Create.is (record { fits = number.fits; spelled = number.spelled })

pub returns-in-Delete : goal.returns-in-Delete
returns-in-Delete g c =
    let object = c.put_object.ensures.added in
    rw c.in-Delete.is (record { fits = object.fits; spelled = object.spelled })

pub returns-in-Read : goal.returns-in-Read
returns-in-Read g c = rw c.in-Read.is c.put_read.ensures

pub returns-in-Write : goal.returns-in-Write
returns-in-Write g c = rw c.in-Write.is c.put_write.ensures

pub returns-in-Truncate : goal.returns-in-Truncate
returns-in-Truncate g c = rw c.in-Truncate.is c.put_truncate.ensures

pub returns-in-GetAttr : goal.returns-in-GetAttr
returns-in-GetAttr g c = rw c.in-GetAttr.is c.put_get_attr.ensures

pub returns-in-GetAclByUser : goal.returns-in-GetAclByUser
returns-in-GetAclByUser g c = rw c.in-GetAclByUser.is c.put_get_acl_by_user.ensures

pub returns-in-GetAclByIndex : goal.returns-in-GetAclByIndex
returns-in-GetAclByIndex g c = rw c.in-GetAclByIndex.is c.put_get_acl_by_index.ensures

pub returns-in-SetAcl : goal.returns-in-SetAcl
returns-in-SetAcl g c = rw c.in-SetAcl.is c.put_set_acl.ensures

pub returns-in-PCreate : goal.returns-in-PCreate
returns-in-PCreate g c = rw c.in-PCreate.is c.put_pcreate.ensures

pub returns-in-PDelete : goal.returns-in-PDelete
returns-in-PDelete g c = rw c.in-PDelete.is c.put_pdelete.ensures

pub returns-in-PList : goal.returns-in-PList
returns-in-PList g c = rw c.in-PList.is c.put_plist.ensures

pub returns-in-PMount : goal.returns-in-PMount
returns-in-PMount g c = rw c.in-PMount.is c.put_pmount.ensures

pub returns-in-Flush : goal.returns-in-Flush
returns-in-Flush g c = rw c.in-Flush.is c.put_flush.ensures

pub returns-in-FlushO : goal.returns-in-FlushO
returns-in-FlushO g c = rw c.in-FlushO.is c.put_flush_object.ensures

pub returns-in-SetBudget : goal.returns-in-SetBudget
returns-in-SetBudget g c = rw c.in-SetBudget.is c.put_set_budget.ensures

pub returns-in-ReadAudit : goal.returns-in-ReadAudit
returns-in-ReadAudit g c = rw c.in-ReadAudit.is c.put_read_audit.ensures
