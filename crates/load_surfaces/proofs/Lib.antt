mod FileRecords
