use Rattle.s4_codec.specs.Parts as parts
use Rattle.s4_codec.specs.Replies.{audit_line, name_line, refusal, reply}
use Rattle.s4_codec.specs.Requests.{request}
use Rattle.s4_codec.proofs.Lawful.{read_back}
use Rattle.s4_codec.proofs.PartLaws.{moment_is, principal_is, user_is, purse_is, object_is, name_is, bytes_are, optional_moment_is, optional_after_is, grant_is}
use Rattle.s4_codec.proofs.RequestLaws.{request_is}
use Rattle.s4_codec.proofs.ReplyLaws.{name_line_is, audit_line_is, refusal_is, reply_is}
use Rattle.s4_codec.proofs.laws.spelled_values_are_read_back.Goals as goal

pub returns-clause-moment : goal.returns-clause-moment
returns-clause-moment c = read_back parts.moment moment_is

pub returns-clause-principal : goal.returns-clause-principal
returns-clause-principal c = read_back parts.principal principal_is

pub returns-clause-user : goal.returns-clause-user
returns-clause-user c = read_back parts.user user_is

pub returns-clause-purse : goal.returns-clause-purse
returns-clause-purse c = read_back parts.purse purse_is

pub returns-clause-object : goal.returns-clause-object
returns-clause-object c = read_back parts.object object_is

pub returns-clause-name : goal.returns-clause-name
returns-clause-name c = read_back parts.name name_is

pub returns-clause-byte_string : goal.returns-clause-byte_string
returns-clause-byte_string c = λ version. read_back (parts.byte_string version) (bytes_are version)

pub returns-clause-optional_moment : goal.returns-clause-optional_moment
returns-clause-optional_moment c = read_back parts.optional_moment optional_moment_is

pub returns-clause-optional_after : goal.returns-clause-optional_after
returns-clause-optional_after c = read_back parts.optional_after optional_after_is

pub returns-clause-grant : goal.returns-clause-grant
returns-clause-grant c = read_back parts.grant grant_is

pub returns-clause-name_line : goal.returns-clause-name_line
returns-clause-name_line c = read_back name_line name_line_is

pub returns-clause-audit_line : goal.returns-clause-audit_line
returns-clause-audit_line c = read_back audit_line audit_line_is

pub returns-clause-refusal : goal.returns-clause-refusal
returns-clause-refusal c = read_back refusal refusal_is

pub returns-clause-request : goal.returns-clause-request
returns-clause-request c = λ version. read_back (request version) (request_is version)

pub returns-clause-reply : goal.returns-clause-reply
returns-clause-reply c = λ version. read_back (reply version) (reply_is version)
