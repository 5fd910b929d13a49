use Rattle.s4_codec.specs.Parts as parts
use Rattle.s4_codec.specs.Replies.{audit_line, name_line, refusal, reply}
use Rattle.s4_codec.specs.Requests.{request}
use Rattle.s4_codec.proofs.Lawful.{prefix_free}
use Rattle.s4_codec.proofs.PartLaws.{moment_is, principal_is, user_is, purse_is, object_is, name_is, bytes_are, optional_moment_is, optional_after_is, grant_is}
use Rattle.s4_codec.proofs.RequestLaws.{request_is}
use Rattle.s4_codec.proofs.ReplyLaws.{name_line_is, audit_line_is, refusal_is, reply_is}
use Rattle.s4_codec.proofs.laws.no_spelling_begins_another.Goals as goal

pub returns-clause-moment : goal.returns-clause-moment
returns-clause-moment c = prefix_free parts.moment moment_is

pub returns-clause-principal : goal.returns-clause-principal
returns-clause-principal c = prefix_free parts.principal principal_is

pub returns-clause-user : goal.returns-clause-user
returns-clause-user c = prefix_free parts.user user_is

pub returns-clause-purse : goal.returns-clause-purse
returns-clause-purse c = prefix_free parts.purse purse_is

pub returns-clause-object : goal.returns-clause-object
returns-clause-object c = prefix_free parts.object object_is

pub returns-clause-name : goal.returns-clause-name
returns-clause-name c = prefix_free parts.name name_is

pub returns-clause-byte_string : goal.returns-clause-byte_string
returns-clause-byte_string c = λ version. prefix_free (parts.byte_string version) (bytes_are version)

pub returns-clause-optional_moment : goal.returns-clause-optional_moment
returns-clause-optional_moment c = prefix_free parts.optional_moment optional_moment_is

pub returns-clause-optional_after : goal.returns-clause-optional_after
returns-clause-optional_after c = prefix_free parts.optional_after optional_after_is

pub returns-clause-grant : goal.returns-clause-grant
returns-clause-grant c = prefix_free parts.grant grant_is

pub returns-clause-name_line : goal.returns-clause-name_line
returns-clause-name_line c = prefix_free name_line name_line_is

pub returns-clause-audit_line : goal.returns-clause-audit_line
returns-clause-audit_line c = prefix_free audit_line audit_line_is

pub returns-clause-refusal : goal.returns-clause-refusal
returns-clause-refusal c = prefix_free refusal refusal_is

pub returns-clause-request : goal.returns-clause-request
returns-clause-request c = λ version. prefix_free (request version) (request_is version)

pub returns-clause-reply : goal.returns-clause-reply
returns-clause-reply c = λ version. prefix_free (reply version) (reply_is version)
