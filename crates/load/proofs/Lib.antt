mod AllTables
