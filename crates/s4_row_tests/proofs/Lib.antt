mod Receipts
