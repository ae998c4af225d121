mod FormHeader
